-- Messages between the two ends of a session (FIX 4.4 Volume 2, SenderCompID and TargetCompID).
use Rattle.std.specs.Prelude.{ℕ, Bool, ◌&&◌}
use Rattle.std.specs.Str.{bytes_eq}
use Rattle.fix_tags.specs.Config.{ConfigParts}
use Rattle.dialect.specs.declared.content.Content.{Content}
use Rattle.dialect.specs.declared.message.Message.{Message}

-- a message from this end to its peer: its number, and whether the peer may have seen it before (43=Y)
abbrev pub message_of : ConfigParts → ℕ → Bool → Content → Message
message_of config number poss_dup content =
    record { from = config.me; to = config.peer; number = number; poss_dup = poss_dup; content = content }

-- whether a message is from the peer to this end
abbrev pub is_for : ConfigParts → Message → Bool
is_for config m = bytes_eq m.from config.peer && bytes_eq m.to config.me

-- Which keys a table of the file may have.
use Rattle.std.specs.Prelude.{ℕ, Bool, ◌||◌, List, codes, Option, Some, None, if◌then◌else◌}
use Rattle.std.specs.Str.{bytes_eq}
use Rattle.toml.specs.Data.{Members, no_members, member}
use Rattle.desk_config.specs.declared.keys.Keys.{Keys}
use Rattle.desk_config.specs.declared.keys.Keys.TheVariants.{File, Desk, Venue, Words, Limits, User}

-- whether a table of this kind may have the key
abbrev pub has_key : Keys → List ℕ → Bool
has_key File key =
    bytes_eq key (codes "desk") || bytes_eq key (codes "limits") || bytes_eq key (codes "venue")
    || bytes_eq key (codes "user")
has_key Desk key =
    bytes_eq key (codes "name") || bytes_eq key (codes "environment") || bytes_eq key (codes "sender")
    || bytes_eq key (codes "callers") || bytes_eq key (codes "log") || bytes_eq key (codes "journal")
    || bytes_eq key (codes "durable") || bytes_eq key (codes "page")
    || bytes_eq key (codes "listen") || bytes_eq key (codes "socket") || bytes_eq key (codes "token")
    || bytes_eq key (codes "hosts")
has_key Venue key =
    bytes_eq key (codes "name") || bytes_eq key (codes "address") || bytes_eq key (codes "addresses")
    || bytes_eq key (codes "target")
    || bytes_eq key (codes "sender") || bytes_eq key (codes "dialect") || bytes_eq key (codes "words")
    || bytes_eq key (codes "order") || bytes_eq key (codes "header") || bytes_eq key (codes "logon")
    || bytes_eq key (codes "password_file") || bytes_eq key (codes "heartbeat") || bytes_eq key (codes "next_expected")
    || bytes_eq key (codes "reopen")
    || bytes_eq key (codes "max_number") || bytes_eq key (codes "fill") || bytes_eq key (codes "leg_shares")
    || bytes_eq key (codes "leg_dollars")
has_key Words key =
    bytes_eq key (codes "id") || bytes_eq key (codes "mark") || bytes_eq key (codes "price")
    || bytes_eq key (codes "symbol")
has_key Limits key =
    bytes_eq key (codes "leg_shares") || bytes_eq key (codes "leg_dollars") || bytes_eq key (codes "sweep_dollars")
    || bytes_eq key (codes "day_dollars") || bytes_eq key (codes "symbols")
has_key User key =
    bytes_eq key (codes "name") || bytes_eq key (codes "token") || bytes_eq key (codes "token_file")
    || bytes_eq key (codes "may")

-- the first key, in the order of their bytes, that a table of this kind may not have
unfoldable pub first_unknown : Keys → Members → Option (List ℕ)
first_unknown keys no_members = None
first_unknown keys (member key given rest) = if has_key keys key then first_unknown keys rest else Some key

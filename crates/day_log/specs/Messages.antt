-- Which messages are noted of what goes one way over a connection: the frames that were written whole, and the messages
-- that the session heard, with all that came before them.
use Rattle.std.specs.Prelude.{◌≡◌, ℕ, ◌+◌, ◌-◌, ◌<◌, Bool, false, List, [], ◌∷◌, ◌++◌, length, take, drop, map, Option, Some, None, Result, Ok, Err, nat_le, nat_eq, ◌==◌, if◌then◌else◌}
use Rattle.std.specs.List.{starts_with}
use Rattle.fix_text.specs.Grammar.{opening}
use Rattle.fix_text.specs.Reading.{length_at}
use Rattle.fix_text.specs.declared.parse.NoFrame.{NoFrame}
use Rattle.day_log.specs.declared.field.Field.{Field}
use Rattle.day_log.specs.declared.field.Field.TheVariants.{Empty, One, Ten, CheckSum, Other}
use Rattle.day_log.specs.declared.frame_head.FrameHead.{FrameHead}

-- the bytes that no message ended yet, unless they are too many, with more behind them: 16,384 are kept at most
abbrev pub kept_with : Option (List ℕ) → List ℕ → Option (List ℕ)
kept_with None more = None
kept_with (Some kept) more = if nat_le (length kept + length more) 16384 then Some (kept ++ more) else None

-- whether nothing is kept
abbrev pub is_fresh : Option (List ℕ) → Bool
is_fresh None = false
is_fresh (Some kept) = length kept == 0

-- all of them but so many that are left
abbrev pub front_of : Option (List ℕ) → ℕ → Option (List ℕ)
front_of None left = None
front_of (Some kept) left = Some (take (length kept - left) kept)

-- those that are left
abbrev pub last_of : Option (List ℕ) → ℕ → Option (List ℕ)
last_of None left = if left == 0 then Some [] else None
last_of (Some kept) left = Some (drop (length kept - left) kept)

-- a message as it is noted: of one with more than 8,192 bytes only that it was there
abbrev pub short : List ℕ → Option (List ℕ)
short message = if nat_le (length message) 8192 then Some message else None

-- a message of which all bytes, or too many, are kept
abbrev pub message_of : Option (List ℕ) → Option (List ℕ)
message_of None = None
message_of (Some message) = short message

-- what is kept of one way, and what was noted of it: the text of each message, unless that was too long
pub record WayParts : Type 0 where
  pub kept : Option (List ℕ)
  pub noted : List (Option (List ℕ))

-- nothing went that way
abbrev pub new_way : WayParts
new_way = record { kept = Some []; noted = [] }

-- a write took these bytes. Where these were all that it was given a message ends with them
abbrev pub after_write : WayParts → List ℕ → Bool → WayParts
after_write way taken is_whole =
    let kept = kept_with way.kept taken in
    if is_whole then record { kept = Some []; noted = way.noted ++ message_of kept ∷ [] }
    else record way { kept = kept }

-- of the bytes that a write was given it took so many
abbrev pub after_taking : WayParts → List ℕ → ℕ → WayParts
after_taking way bytes count =
    if count == 0 then way else after_write way (take count bytes) (length (drop count bytes) == 0)

-- a read gave these bytes
abbrev pub after_read : WayParts → List ℕ → WayParts
after_read way bytes = record way { kept = kept_with way.kept bytes }

-- BodyLength (9), if it can be read, and what follows it
abbrev pub size_of : Result (ℕ × List ℕ) NoFrame → Option (ℕ × List ℕ)
size_of (Ok found) = Some found
size_of (Err stop) = None

-- where the body begins of a frame that has this BodyLength and what follows it, and where the frame ends, if it is one
abbrev pub head_by : List ℕ → Option (ℕ × List ℕ) → Option FrameHead
head_by bytes None = None
head_by bytes (Some found) =
    let body = length bytes - length found.1 in Some (record { body = body; end = body + found.0 + 7 })

-- the same of bytes that begin as a frame does: `8=FIX.4.4|9=n|`, with `|` for SOH
abbrev pub head_of : List ℕ → Option FrameHead
head_of bytes =
    if starts_with nat_eq bytes opening then head_by bytes (size_of (length_at 6 0 (drop 12 bytes))) else None

-- whether the end of a frame is that of these bytes
abbrev pub ends_at : ℕ → Option FrameHead → Bool
ends_at size None = false
ends_at size (Some head) = head.end == size

-- whether bytes are one frame, as its BodyLength has it
abbrev pub is_one_frame : List ℕ → Bool
is_one_frame bytes = ends_at (length bytes) (head_of bytes)

-- what a field is behind a byte that isn't SOH
abbrev pub longer_field : Field → ℕ → Field
longer_field Empty c = if c == 49 then One else Other
longer_field One c = if c == 48 then Ten else Other
longer_field Ten c = if c == 61 then CheckSum else Other
longer_field CheckSum c = CheckSum
longer_field Other c = Other

-- what a field is behind a byte
abbrev pub field_after : Field → ℕ → Field
field_after field c = if c == 1 then Empty else longer_field field c

-- whether a message ends with a byte: with that of the field CheckSum (10)
abbrev pub is_end : Field → ℕ → Bool
is_end CheckSum c = c == 1
is_end _ c = false

-- bytes split behind each field CheckSum (10), and what is behind the last one
pub record Split : Type 0 where
  pub messages : List (List ℕ)
  pub rest : List ℕ

-- a message before the others
abbrev pub with_message : List ℕ → Split → Split
with_message message s = record s { messages = message ∷ s.messages }

-- bytes are split behind what is read of the first message and of its last field
abbrev pub split_on : Field → List ℕ → List ℕ → Split
split_on field text [] = record { messages = []; rest = text }
split_on field text (c ∷ cs) =
    if is_end field c then with_message (text ++ c ∷ []) (split_on Empty [] cs)
    else split_on (field_after field c) (text ++ c ∷ []) cs

abbrev pub split : List ℕ → Split
split bytes = split_on Empty [] bytes

-- what is behind the last CheckSum is a message too, if anything is there
abbrev pub last_message : List ℕ → List (List ℕ)
last_message [] = []
last_message (c ∷ cs) = (c ∷ cs) ∷ []

-- the messages in bytes with whose last one a message ends: one frame, or several that are split by CheckSum (10),
-- since the reader passed over the first of them
abbrev pub messages_in : List ℕ → List (List ℕ)
messages_in bytes =
    if is_one_frame bytes then bytes ∷ [] else (split bytes).messages ++ last_message (split bytes).rest

-- the messages as they are noted, of which all bytes, or too many, are kept
abbrev pub messages_of : Option (List ℕ) → List (Option (List ℕ))
messages_of None = None ∷ []
messages_of (Some bytes) = map short (messages_in bytes)

-- a message was heard, behind which so many bytes are left
abbrev pub after_hearing : WayParts → ℕ → WayParts
after_hearing way left =
    record { kept = last_of way.kept left; noted = way.noted ++ messages_of (front_of way.kept left) }

-- the messages that came, and weren't heard
abbrev pub unheard : Option (List ℕ) → List (Option (List ℕ))
unheard None = []
unheard (Some bytes) = map short (split bytes).messages

-- the connection ended. What is behind the last CheckSum is no message
abbrev pub after_end : WayParts → WayParts
after_end way = record { kept = Some []; noted = way.noted ++ unheard way.kept }

-- the writes of some bytes, each with what it took of those that it was given and what it left
abbrev pub AreWrites : List ℕ → List (List ℕ × List ℕ) → Type 0
AreWrites bytes [] = bytes ≡ []
AreWrites bytes (write ∷ writes) = (bytes ≡ write.0 ++ write.1) × (0 < length write.0) × AreWrites write.1 writes

-- what is left of one way once each of these writes was made
abbrev pub after_writes : WayParts → List (List ℕ × List ℕ) → WayParts
after_writes way [] = way
after_writes way (write ∷ writes) = after_writes (after_taking way (write.0 ++ write.1) (length write.0)) writes

-- what is left of one way once these bytes were read, in any pieces
abbrev pub after_reads : WayParts → List (List ℕ) → WayParts
after_reads way [] = way
after_reads way (bytes ∷ more) = after_reads (after_read way bytes) more

-- The lines of a log that wait to be written, and the counts of all.
use Rattle.std.specs.Prelude.{◌≡◌, ℕ, ◌+◌, ◌<◌, ◌≤◌, ◌^◌, Bool, true, false, ◌&&◌, List, [], ◌++◌, length, Option, Some, None, Result, Ok, Err, nat_le, nat_lt, ◌==◌, if◌then◌else◌}
use Rattle.message_log.specs.declared.lost.Lost.{Lost}
use Rattle.message_log.specs.declared.lost.Lost.TheVariants.{NoRoom, OutOfMemory}

-- the lines that wait and aren't handed over, how many bytes of them there may be, how many there are, how many are
-- handed over, how many were kept and lost, and how many were put
pub record QueueParts : Type 0 where
  pub lines : List ℕ
  pub room : ℕ
  pub queued : ℕ
  pub in_hand : ℕ
  pub kept : ℕ
  pub lost : ℕ
  pub put : ℕ

-- kept, lost and waiting add up to the messages put
pub record AddsUp (q : QueueParts) : Type 0 where
  pub sum : q.kept + q.lost + (q.queued + q.in_hand) ≡ q.put
  pub count : q.put < 2 ^ 64

-- the counts add up, and the lines are in their room
pub record IsQueue (q : QueueParts) : Type 0 where
  pub counts : AddsUp q
  pub short : length q.lines ≤ q.room

-- no line was put
abbrev pub empty_queue : ℕ → QueueParts
empty_queue room = record { lines = []; room = room; queued = 0; in_hand = 0; kept = 0; lost = 0; put = 0 }

-- whether one more message can be counted in 64 bits
abbrev pub has_count : QueueParts → Bool
has_count q = nat_lt q.put 18_446_744_073_709_551_615

-- whether there is room for a line and for its count
abbrev pub has_room : List ℕ → QueueParts → Bool
has_room line q = has_count q && nat_le (length q.lines + length line) q.room

-- a line waits behind those that do
abbrev pub one_more : List ℕ → QueueParts → QueueParts
one_more line q = record q { lines = q.lines ++ line; queued = q.queued + 1; put = q.put + 1 }

-- a message is lost, where it can be counted
abbrev pub one_lost : QueueParts → QueueParts
one_lost q = if has_count q then record q { lost = q.lost + 1; put = q.put + 1 } else q

-- a line that there is room for waits, unless memory runs out; any other is lost
abbrev pub Puts : List ℕ → QueueParts → Result (Unit {0}) Lost → QueueParts → Type 0
Puts line old (Ok done) new = (has_room line old ≡ true) × (new ≡ one_more line old)
Puts line old (Err NoRoom) new = (has_room line old ≡ false) × (new ≡ one_lost old)
Puts line old (Err OutOfMemory) new = (has_room line old ≡ true) × (new ≡ one_lost old)

-- whether lines can be handed over: some wait, and none is in hand
abbrev pub can_take : QueueParts → Bool
can_take q = nat_lt 0 q.queued && (q.in_hand == 0)

-- the lines that wait are handed over
abbrev pub handed_over : QueueParts → QueueParts
handed_over q = record q { lines = []; queued = 0; in_hand = q.queued }

-- all the lines that wait and the queue without them, where they can be handed over
abbrev pub taken : QueueParts → Option (List ℕ) × QueueParts
taken q = if can_take q then (Some q.lines, handed_over q) else (None, q)

-- the lines that were handed over are kept, or lost
abbrev pub settled : Bool → QueueParts → QueueParts
settled is_written q =
    if is_written
    then record q { kept = q.kept + q.in_hand; in_hand = 0 }
    else record q { lost = q.lost + q.in_hand; in_hand = 0 }

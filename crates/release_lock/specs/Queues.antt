-- The rings of the venues: what was pushed to each, what was popped, and when a gate is put up.
use Rattle.std.specs.Prelude.{◌≡◌, ℕ, zero, suc, ◌+◌, ◌<◌, ◌&&◌, ◌⊎◌, ◌==◌, Bool, true, false, List, [], ◌∷◌, ◌++◌, length, take, replicate, slice_get, Some, Result, Err, nat_lt, if◌then◌else◌}
use Rattle.std.specs.List.{list_any}
use mathlib.Core.List.{IsPrefix}
use Rattle.crossbeam_queue.specs.Fifo.{Held}
use Rattle.atomic_table.specs.Seated.{TableId}
use Rattle.leg.specs.declared.leg.Leg.{Leg}
use Rattle.leg.specs.declared.placed_leg.PlacedLeg.{PlacedLeg}
use Rattle.leg.specs.declared.sweep.Routed.{Routed}
use Rattle.venue_queue.specs.Port.{Port}
use Rattle.venue_queue.specs.Rule.{EndsWith}
use Rattle.sweep_release.specs.declared.desk_entry.DeskEntry.{DeskEntry}
use Rattle.sweep_release.specs.declared.desk_entry.DeskEntry.TheVariants.{Taken, Dropped}
use Rattle.sweep_release.specs.declared.gate.Gate.{Gate}
use Rattle.sweep_release.specs.declared.gate.Gate.TheVariants.{Up, Down, Shut}
use Rattle.sweep_release.specs.declared.gate_fault.GateFault.{GateFault}
use Rattle.sweep_release.specs.declared.gate_fault.GateFault.TheVariants.{NotDrained}
use Rattle.sweep_release.specs.Released.{released}
use Rattle.sweep_release.specs.Desk.{DeskParts, venue_at, gate_of, placed, is_up, gate_up}
use Rattle.sweep_release.specs.History.{DeskWithHistory, KeptDesk, replay, gate_up_entries, with_entries}

-- these legs, the first of them having this ordinal
abbrev pub placed_from : ℕ → List Leg → List PlacedLeg
placed_from ordinal [] = []
placed_from ordinal (leg ∷ legs) = record { ordinal = ordinal; leg = leg } ∷ placed_from (suc ordinal) legs

-- the legs released to a venue, with their ordinals, from 1
abbrev pub released_to : DeskParts → ℕ → List PlacedLeg
released_to desk venue = placed_from 1 (released venue desk.sweeps)

-- those that left the desk, taken or dropped
abbrev pub left_to : DeskParts → ℕ → List PlacedLeg
left_to desk venue = take (venue_at desk venue).left (released_to desk venue)

-- a venue's feed is that of the run's ring, which has room for 64 legs, and what was pushed to it are the legs that
-- left the desk
pub record IsFed (queues : List TableId) (desk : DeskParts) (venue : ℕ) (feed : Port) : Type 0 where
  pub queue : slice_get queues venue ≡ Some feed.table
  pub room : feed.room ≡ 64
  pub legs : feed.legs ≡ left_to desk venue

-- and so is each venue's
abbrev pub AreFed : List TableId → DeskParts → List Port → Type 0
AreFed queues desk feeds =
    (venue : ℕ) (feed : Port) → slice_get feeds venue ≡ Some feed → IsFed queues desk venue feed

-- two ends of one ring that has room for 64 legs, through which nothing went
pub record IsFresh (ends : Port × Port) : Type 0 where
  pub one_ring : ends.0.table ≡ ends.1.table
  pub room : ends.0.room ≡ 64
  pub pushed : ends.0.legs ≡ []
  pub popped : ends.1.legs ≡ []

-- a drain as its worker sees it: the venue, and the legs popped, in order
pub record DrainParts : Type 0 where
  pub venue : ℕ
  pub popped : List PlacedLeg

-- the drains of so many venues, with nothing popped
abbrev pub new_drains : ℕ → List DrainParts
new_drains zero = []
new_drains (suc venue) = new_drains venue ++ record { venue = venue; popped = [] } ∷ []

-- one leg more was popped
abbrev pub with_popped : DrainParts → PlacedLeg → DrainParts
with_popped drain leg = record drain { popped = drain.popped ++ leg ∷ [] }

-- the call by which the next leg of a venue leaves the desk: it is taken while the gate is up, and else dropped
abbrev pub leaving : DeskParts → ℕ → DeskEntry
leaving desk venue = if is_up (gate_of desk venue) then Taken venue else Dropped venue

-- a desk after so many of a venue's placed legs left, one after the other
pub record Pumps (venue : ℕ) (before after : KeptDesk) : Type 0 where
  pub moved : ℕ
  pub few : placed before.desk venue ≡ moved + placed after.desk venue
  pub desk : after.desk ≡ replay before.desk (replicate moved (leaving before.desk venue))
  pub history : after.history ≡ before.history ++ replicate moved (leaving before.desk venue)
  pub room : after.room ≡ before.room

-- the same, until none is placed or the ring was full at some moment, of the last legs that left
pub record PumpsOut (venue : ℕ) (before after : KeptDesk) : Type 0 where
  pub pumps : Pumps venue before after
  pub done : (placed after.desk venue ≡ 0) ⊎ Held 64 (EndsWith (left_to after.desk venue))

-- whether one of these legs is for a venue
abbrev pub is_for : ℕ → List Routed → Bool
is_for venue legs = list_any (λ routed. routed.venue == venue) legs

-- marks for the venues from 0 to 15: which of them pass a test
abbrev pub AreMarks : List Bool → (ℕ → Bool) → Type 0
AreMarks marks named = (venue : ℕ) → venue < 16 → slice_get marks venue ≡ Some (named venue)

-- a venue is pumped where this is so, and else nothing is done
abbrev pub PumpsIf : Bool → ℕ → KeptDesk → KeptDesk → Type 0
PumpsIf true venue before after = PumpsOut venue before after
PumpsIf false venue before after = after ≡ before

-- of the venues below this one each that is named was pumped, in the order of their numbers
abbrev pub PumpsEach : (ℕ → Bool) → ℕ → KeptDesk → KeptDesk → Type 0
PumpsEach named zero before after = after ≡ before
PumpsEach named (suc venue) before after =
    (between : KeptDesk) × PumpsEach named venue before between × PumpsIf (named venue) venue between after

-- whether a gate is down, and may be put up again
abbrev pub is_down : Gate → Bool
is_down Up = false
is_down Down = true
is_down Shut = false

-- a gate is put up, once every leg released to the venue was popped
abbrev pub raise : DeskWithHistory → ℕ → ℕ → Result (Unit {0}) GateFault × DeskWithHistory
raise before venue popped =
    if is_down (gate_of before.desk venue) && nat_lt popped (length (released venue before.desk.sweeps))
    then (Err NotDrained, before)
    else with_entries before (gate_up_entries before.desk venue) (gate_up before.desk venue)

-- what a venue's worker took: all that it popped, in order
pub record Took : Type 0 where
  pub venue : ℕ
  pub taken : List PlacedLeg

-- the worker at a place took the first legs released to the venue of that number
abbrev pub TookFirst : DeskParts → ℕ → Took → Type 0
TookFirst desk venue end = IsPrefix end.taken (released_to desk venue)

-- and so did each at a place below this one
abbrev pub AllTookFirst : DeskParts → List Took → ℕ → Type 0
AllTookFirst desk ends bound =
    (venue : ℕ) (end : Took) → venue < bound → slice_get ends venue ≡ Some end → TookFirst desk venue end

-- the worker at this place is the first that didn't
pub record IsFirstWrong (desk : DeskParts) (ends : List Took) (venue : ℕ) : Type 0 where
  pub end : Took
  pub there : slice_get ends venue ≡ Some end
  pub wrong : TookFirst desk venue end → ⊥
  pub first : AllTookFirst desk ends venue

-- each worker's venue is its place
abbrev pub AreInOrder : List Took → Type 0
AreInOrder ends = (venue : ℕ) (end : Took) → slice_get ends venue ≡ Some end → end.venue ≡ venue

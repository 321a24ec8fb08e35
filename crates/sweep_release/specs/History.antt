-- The desk's history: the entries of the calls that changed it, which lead to it again from the opening desk.
use Rattle.std.specs.Prelude.{ℕ, List, [], ◌∷◌, ◌++◌, ◌==◌, Option, Some, None, Result, Ok, Err, if◌then◌else◌}
use Rattle.leg.specs.declared.placed_leg.PlacedLeg.{PlacedLeg}
use Rattle.leg.specs.declared.sweep.Routed.{Routed}
use Rattle.sweep_release.specs.declared.desk_entry.DeskEntry.{DeskEntry}
use Rattle.sweep_release.specs.declared.desk_entry.DeskEntry.TheVariants as entry
use Rattle.sweep_release.specs.declared.gate.Gate.{Gate}
use Rattle.sweep_release.specs.declared.gate.Gate.TheVariants.{Up, Down, Shut}
use Rattle.sweep_release.specs.declared.receipt.Receipt.{Receipt}
use Rattle.sweep_release.specs.declared.release_fault.ReleaseFault.{ReleaseFault}
use Rattle.sweep_release.specs.Desk.{DeskParts, release, gate_of, placed, gate_up, gate_down, is_up, is_shut, shut, take, drop_next}

-- an entry's call is made again
abbrev pub again : DeskParts → DeskEntry → DeskParts
again desk (entry.Released sweep) = (release desk sweep.legs).1
again desk (entry.Up venue) = (gate_up desk venue).1
again desk (entry.Down venue) = gate_down desk venue
again desk (entry.Shut venue) = shut desk venue
again desk (entry.Taken venue) = (take desk venue).1
again desk (entry.Dropped venue) = (drop_next desk venue).1

-- the desk after the calls of these entries
abbrev pub replay : DeskParts → List DeskEntry → DeskParts
replay desk [] = desk
replay desk (entry ∷ entries) = replay (again desk entry) entries

-- what a release adds to the history: nothing, where it is refused
abbrev pub release_entries : List Routed → Result Receipt ReleaseFault → List DeskEntry
release_entries legs (Ok receipt) = entry.Released (record { legs = legs }) ∷ []
release_entries legs (Err fault) = []

-- what `gate_up` adds: the entry, where the gate was down and nothing is placed
abbrev pub gate_up_entries_from : Gate → DeskParts → ℕ → List DeskEntry
gate_up_entries_from Up desk venue = []
gate_up_entries_from Shut desk venue = []
gate_up_entries_from Down desk venue = if placed desk venue == 0 then entry.Up venue ∷ [] else []

abbrev pub gate_up_entries : DeskParts → ℕ → List DeskEntry
gate_up_entries desk venue = gate_up_entries_from (gate_of desk venue) desk venue

-- what `gate_down` adds: the entry, where the gate was up
abbrev pub gate_down_entries : DeskParts → ℕ → List DeskEntry
gate_down_entries desk venue = if is_up (gate_of desk venue) then entry.Down venue ∷ [] else []

-- what `shut` adds: the entry, where the gate wasn't shut
abbrev pub shut_entries : DeskParts → ℕ → List DeskEntry
shut_entries desk venue = if is_shut (gate_of desk venue) then [] else entry.Shut venue ∷ []

-- what `take` and `drop_next` add: the entry, where a leg left
abbrev pub left_entries : DeskEntry → Option PlacedLeg → List DeskEntry
left_entries entry None = []
left_entries entry (Some leg) = entry ∷ []

abbrev pub take_entries : DeskParts → ℕ → List DeskEntry
take_entries desk venue = left_entries (entry.Taken venue) (take desk venue).0

abbrev pub drop_next_entries : DeskParts → ℕ → List DeskEntry
drop_next_entries desk venue = left_entries (entry.Dropped venue) (drop_next desk venue).0

-- what an entry's call adds
abbrev pub recorded : DeskParts → DeskEntry → List DeskEntry
recorded desk (entry.Released sweep) = release_entries sweep.legs (release desk sweep.legs).0
recorded desk (entry.Up venue) = gate_up_entries desk venue
recorded desk (entry.Down venue) = gate_down_entries desk venue
recorded desk (entry.Shut venue) = shut_entries desk venue
recorded desk (entry.Taken venue) = take_entries desk venue
recorded desk (entry.Dropped venue) = drop_next_entries desk venue

-- the history of these calls: those that changed the desk
abbrev pub history : DeskParts → List DeskEntry → List DeskEntry
history desk [] = []
history desk (call ∷ calls) = recorded desk call ++ history (again desk call) calls

-- a desk, and the entries of the calls that changed it
pub record DeskWithHistory : Type 0 where
  pub desk : DeskParts
  pub history : List DeskEntry

-- the same, with how many legs can be released without memory, the release itself counted as one
pub record KeptDesk : Type 0 where
  pub desk : DeskParts
  pub history : List DeskEntry
  pub room : ℕ

abbrev pub without_room : KeptDesk → DeskWithHistory
without_room kept = record { desk = kept.desk; history = kept.history }

-- a call's answer, and the desk after it with what the call adds to its history
abbrev pub with_entries : {X : Type 0} → DeskWithHistory → List DeskEntry → X × DeskParts → X × DeskWithHistory
with_entries before entries (answer, desk) = (answer, record { desk = desk; history = before.history ++ entries })

-- How the lines of several venues are done again.
use Rattle.std.specs.Prelude.{◌≡◌, ◌<◌, ◌≤◌, ℕ, ◌||◌, Bool, List, [], ◌∷◌, codes, count_by, drop, length, map, nat_eq, slice_get, take, Some}
use Rattle.std.specs.List.{AllZip, starts_with}
use Rattle.dialect.specs.Wording.{Decoding}
use Rattle.journal_words.specs.Deed.{Timed}
use Rattle.session_core.specs.Calling.{broken}
use Rattle.session_worker.specs.Keeping.{events_of}
use Rattle.session_worker.specs.Restoring.{Redoes, RedoesLine, StartParts}
use Rattle.journal_folder.specs.declared.restart_fault.RestartFault.{RestartFault}
use Rattle.journal_folder.specs.declared.restart_fault.RestartFault.TheVariants.{DeskLine, OutOfMemory, VenueLine}
use Rattle.day_restart.specs.Restored.{Past, deeds_in}

-- whether a line is that of a leg which was taken, and how many of these are
abbrev pub is_of_leg : List ℕ → Bool
is_of_leg line =
    starts_with nat_eq (drop 22 line) (codes "send ") || starts_with nat_eq (drop 22 line) (codes "drop ")
    || starts_with nat_eq (drop 22 line) (codes "fail ")

abbrev pub leg_count : List (List ℕ) → ℕ
leg_count lines = count_by is_of_leg lines

-- of venues with so many lines, and so many of them done again: each was done
abbrev pub AllDone : List ℕ → List ℕ → Type 0
AllDone lines at =
    (place lines_there done : ℕ) → slice_get lines place ≡ Some lines_there → slice_get at place ≡ Some done
    → lines_there ≤ done

-- the venue at this place has a line more
pub record HasNext (lines at : List ℕ) (place : ℕ) : Type 0 where
  pub lines_there : ℕ
  pub done : ℕ
  pub there : slice_get lines place ≡ Some lines_there
  pub done_there : slice_get at place ≡ Some done
  pub more : done < lines_there

-- the line at a place, from 0, was done again
pub record RedoesAt (read : Decoding) (before : StartParts) (lines : List (List ℕ)) (place : ℕ) (after : StartParts)
    : Type 0 where
  pub line : List ℕ
  pub there : slice_get lines place ≡ Some line
  pub redoes : RedoesLine read before line after

-- these lines were done again, one after the other
pub record RedoesLines (read : Decoding) (before : StartParts) (lines : List (List ℕ)) (after : StartParts)
    : Type 0 where
  pub deeds : List Timed
  pub said : deeds_in lines ≡ Some deeds
  pub redoes : Redoes read before (events_of deeds) after

-- of each venue so many lines were
pub record AllRedoTo (pasts : List Past) (at : List ℕ) (before after : List StartParts) : Type 0 where
  pub at_each : length at ≡ length pasts
  pub after_each : length after ≡ length before
  pub each : (place done : ℕ) (past : Past) (was now : StartParts) → slice_get pasts place ≡ Some past
      → slice_get at place ≡ Some done → slice_get before place ≡ Some was → slice_get after place ≡ Some now
      → RedoesLines past.0 was (take done past.1) now

-- of each venue all were
pub record AllRedo (pasts : List Past) (before after : List StartParts) : Type 0 where
  pub after_each : length after ≡ length before
  pub each : (place : ℕ) (past : Past) (was now : StartParts) → slice_get pasts place ≡ Some past
      → slice_get before place ≡ Some was → slice_get after place ≡ Some now → RedoesLines past.0 was past.1 now

-- the lines told of each leg that was taken, and the connection is gone
pub record Ends (before after : StartParts) : Type 0 where
  pub all : before.told ≡ length before.took.taken
  pub ended : after ≡ record before { session = broken before.session }

abbrev pub AllEnd : List StartParts → List StartParts → Type 0
AllEnd before after = AllZip Ends before after

-- a line of the venue of this name can't be done again, or there is no memory for it
abbrev pub IsVenueFault : List ℕ → ℕ → RestartFault → Type 0
IsVenueFault name line OutOfMemory = Unit {0}
IsVenueFault name line (VenueLine venue at) = (venue ≡ name) × (at ≡ line)
IsVenueFault name line fault = ⊥

-- one of the lines of one of these venues can't
abbrev pub IsVenuesFault : List (List ℕ × ℕ) → RestartFault → Type 0
IsVenuesFault venues OutOfMemory = Unit {0}
IsVenuesFault venues (VenueLine venue at) =
    (place lines : ℕ) × (slice_get venues place ≡ Some (venue, lines)) × (at ≤ lines)
IsVenuesFault venues fault = ⊥

-- a line of the desk can't be done again, or one of these venues', or there is no memory for it
abbrev pub IsRefusal : ℕ → List (List ℕ × ℕ) → RestartFault → Type 0
IsRefusal lines venues (DeskLine at) = (1 ≤ at) × (at ≤ lines)
IsRefusal lines venues fault = IsVenuesFault venues fault

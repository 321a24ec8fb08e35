-- When a day ended, by the lines of its desk, and why a day's folder is refused.
use Rattle.std.specs.Prelude.{◌≡◌, ℕ, ◌-◌, Bool, true, false, List, length, slice_get, Option, Some, None, option_and_then, Result, Ok, if◌then◌else◌}
use Rattle.fix_tags.specs.Stamp.{StampParts}
use Rattle.desk_words.specs.Printable.{shown}
use Rattle.journal_words.specs.Desk.{DeskSaid, desk_said}
use Rattle.journal_words.specs.Desk.DeskSaid.{Ends}
use Rattle.journal_words.specs.declared.fault.WordsFault.{WordsFault}
use Rattle.journal_folder.specs.declared.restart_fault.RestartFault.{RestartFault}
use Rattle.journal_folder.specs.declared.restart_fault.RestartFault.TheVariants.{Folder, Desk, Venue, Ended, OutOfMemory}

-- whether a line says that the day ended
abbrev pub says_end : Result (StampParts × DeskSaid) WordsFault → Bool
says_end (Ok (stamp, Ends)) = true
says_end _ = false

-- the time of a line that says so
abbrev pub end_time : List ℕ → Option (List ℕ)
end_time line = if says_end (desk_said line) then Some (shown 21 line) else None

-- when a day with these lines ended, if the last one says that it did
abbrev pub ended_at : List (List ℕ) → Option (List ℕ)
ended_at lines = option_and_then end_time (slice_get lines (length lines - 1))

-- a folder or a journal can't be used, the day ended, or there is no memory
abbrev pub IsOpenFault : RestartFault → Type 0
IsOpenFault (Folder fault) = Unit {0}
IsOpenFault (Desk fault) = Unit {0}
IsOpenFault (Venue name fault) = Unit {0}
IsOpenFault (Ended time) = (lines : List (List ℕ)) × (ended_at lines ≡ Some time)
IsOpenFault OutOfMemory = Unit {0}
IsOpenFault _ = ⊥

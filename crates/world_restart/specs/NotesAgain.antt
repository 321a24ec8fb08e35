-- Notes over restarts: what was booked and then lost comes again, so that the book is given the same notes in the same
-- order.
use Rattle.std.specs.Prelude.{◌⊎◌, ◌++◌, ℕ, Bool, List}
use Rattle.leg.specs.Growing.{Grew}
use Rattle.dialect.specs.declared.note.Note.{Note}
use Rattle.schedule.specs.World.{given}
use Rattle.schedule.specs.SweepTheorem.{IsOpening}
use Rattle.world_restart.specs.Day.{DayEvent, run_day}

-- the one is the other, or begins with it
abbrev pub AreOneSequence : List Note → List Note → Type 0
AreOneSequence a b = Grew a b ⊎ Grew b a

-- so it is of the notes of a venue at any two moments
abbrev pub TheNotesComeAgain : Type 0
TheNotesComeAgain =
    (next : List Bool) (max_number : ℕ) (events more : List DayEvent) (v : ℕ) → IsOpening next max_number
    → AreOneSequence (given (run_day next max_number events).world v)
    (given (run_day next max_number (events ++ more)).world v)

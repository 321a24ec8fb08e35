-- A line with restarts is a line without: so what is proved of every line holds of it, at every moment.
use Rattle.std.specs.Prelude.{◌≡◌, ◌≤◌, List}
use Rattle.std.specs.List.{All}
use Rattle.fix_tags.specs.Config.{ConfigParts}
use Rattle.venue_line.specs.Line.{Line, new_line}
use Rattle.venue_line.specs.Leading.{Leads}
use Rattle.venue_line.specs.LineTheorem.{LineHolds}
use Rattle.line_notes.specs.NotesTheorem.{NotesAreOnAccepted, NoneIsOnWithdrawn}
use Rattle.line_restart.specs.Lives.{Life, durable_line, IsLife, Restarts, AreLives, all_moments}

-- ordinary steps lead to it, with no restart among them, from a line whose session and exchange begin at number 1
abbrev pub IsReached : ConfigParts → Line → Type 0
IsReached config w = Leads (new_line config) w

-- whenever the dispatcher is killed, and however often
abbrev pub TheReachedTheorem : Type 0
TheReachedTheorem = (config : ConfigParts) (first : Life) (lives : List Life) → first.start ≡ new_line config
    → AreLives first lives → All (IsReached config) (all_moments first lives)

abbrev pub TheRestartTheorem : Type 0
TheRestartTheorem = (config : ConfigParts) (first : Life) (lives : List Life) → config.max_number ≤ 999999999
    → first.start ≡ new_line config → AreLives first lives → All LineHolds (all_moments first lives)

-- the notes given are on accepted legs, and on none that is withdrawn
abbrev pub TheNotesOverRestarts : Type 0
TheNotesOverRestarts = (config : ConfigParts) (first : Life) (lives : List Life) → config.max_number ≤ 999999999
    → first.start ≡ new_line config → AreLives first lives
    → All NotesAreOnAccepted (all_moments first lives) × All NoneIsOnWithdrawn (all_moments first lives)

-- a connection that were taken as still there would leave the line safe
abbrev pub AnOpenConnectionIsSafe : Type 0
AnOpenConnectionIsSafe = (config : ConfigParts) (life : Life) (next : Line) → config.max_number ≤ 999999999
    → IsReached config life.start → IsLife life → Restarts life next
    → LineHolds (record next { session = (durable_line life).session })

-- What becomes of a script that is read and run line by line.
use Rattle.std.specs.Prelude.{◌≡◌, ℕ, ◌<◌, Bool, true, false, List, [], ◌∷◌, ◌++◌, length, codes, Option, Some, None, Result, Ok, Err}
use Rattle.std.specs.Io.BufRead.{take_through, drop_through}
use Rattle.std.specs.Io.KnownBytes.{Appends, Keeps}
use Rattle.schedule.specs.World.{World}
use Rattle.schedule.specs.Printed.{printed}
use Rattle.schedule.specs.Script.{lines_of}
use Rattle.script.specs.declared.day_event.DayEvent.{DayEvent}
use Rattle.script.specs.DayScript.{BegunScript}
use Rattle.world_restart.specs.Start.{Day}
use Rattle.world_text.specs.Summary.{summed}
use Rattle.replay_command.specs.declared.fault.CommandFault.{CommandFault}
use Rattle.replay_command.specs.declared.fault.CommandFault.TheVariants.{BadLine, Impossible, ReadFailed, WriteFailed, OutOfMemory}
use Rattle.replay_command.specs.declared.begun.Begun.{Begun}
use Rattle.replay_command.specs.declared.shown.Shown.{Shown}
use Rattle.replay_command.specs.Days.{Ending}
use Rattle.replay_command.specs.Days.Ending.{Over, BadAt, ImpossibleAt}
use Rattle.replay_command.specs.Steps.{AreStepsOf}

-- the input can't be read, or not be kept
abbrev pub IsOfInput : CommandFault → Type 0
IsOfInput ReadFailed = Unit {0}
IsOfInput OutOfMemory = Unit {0}
IsOfInput other = ⊥

-- memory failed, or the output, where each step is printed
abbrev pub IsOfRun : Bool → CommandFault → Type 0
IsOfRun steps OutOfMemory = Unit {0}
IsOfRun steps WriteFailed = steps ≡ true
IsOfRun steps other = ⊥

-- the first bad line is named, if one is bad; or the input can't be read, or memory failed
abbrev pub IsOfReading : CommandFault → Option ℕ → Type 0
IsOfReading ReadFailed bad = Unit {0}
IsOfReading OutOfMemory bad = Unit {0}
IsOfReading (BadLine number) bad = bad ≡ Some number
IsOfReading other bad = ⊥

-- the line is named at which the run ends, bad or of a crash that can't be; or the input can't be read, or memory or
-- the output failed
abbrev pub IsFaultOf : Bool → CommandFault → Ending → Type 0
IsFaultOf steps ReadFailed ending = Unit {0}
IsFaultOf steps OutOfMemory ending = Unit {0}
IsFaultOf steps WriteFailed ending = steps ≡ true
IsFaultOf steps (BadLine number) ending = ending ≡ BadAt number
IsFaultOf steps (Impossible number why) ending = ending ≡ ImpossibleAt number
IsFaultOf steps other ending = ⊥

-- a line of an input was read, with its end, and these bytes are left behind it; or there was none
abbrev pub ReadsLine : Bool → List ℕ → Option (List ℕ) → List ℕ → Type 0
ReadsLine true line left bytes =
    (0 < length line) × (line ≡ take_through 10 bytes) × (left ≡ Some (drop_through 10 bytes))
ReadsLine false line left bytes = bytes ≡ []

-- the number of a first line that is missing
abbrev pub missing : Result BegunScript ℕ → Option ℕ
missing (Ok begun) = None
missing (Err number) = Some number

-- the first line was read of this script, and its other lines are left; or it has none
abbrev pub Begins : Result Begun CommandFault → Option (List ℕ) → Result BegunScript ℕ → Type 0
Begins (Ok begun) left script = (rest : List ℕ) × (left ≡ Some rest)
    × (script ≡ Ok (record { head = begun.head; number = begun.number; lines = lines_of rest }))
Begins (Err fault) left script = IsOfReading fault (missing script)

-- what a line says is given: nothing, where it is passed over, or its event; or it is bad
abbrev pub GivesEvent : Result (Option DayEvent) CommandFault → ℕ → Option (Option DayEvent) → Type 0
GivesEvent (Ok event) number (Some said) = event ≡ said
GivesEvent (Ok event) number None = ⊥
GivesEvent (Err fault) number (Some said) = fault ≡ OutOfMemory
GivesEvent (Err fault) number None = fault ≡ BadLine number

-- no line is bad, or the first bad one is named
abbrev pub Checks : Result (Unit {0}) CommandFault → Option ℕ → Type 0
Checks (Ok done) None = Unit {0}
Checks (Ok done) (Some line) = ⊥
Checks (Err fault) bad = IsOfReading fault bad

-- a run leads to the day of its ending
abbrev pub RunsTo : Bool → Result Day CommandFault → Ending → Type 0
RunsTo steps (Ok day) (Over last) = day ≡ last
RunsTo steps (Ok day) ended = ⊥
RunsTo steps (Err fault) ending = IsFaultOf steps fault ending

-- and one line does to this day
abbrev pub RunsLine : Bool → Result (Unit {0}) CommandFault → Day → Ending → Type 0
RunsLine steps (Ok done) day ending = ending ≡ Over day
RunsLine steps (Err fault) day ending = IsFaultOf steps fault ending

-- lines come last, and nothing before them unless more is shown
abbrev pub ShowsLast : Bool → List ℕ → List ℕ → Type 0
ShowsLast shows_more text lines = (more : List ℕ) × (text ≡ more ++ lines) × (shows_more ≡ false → more ≡ [])

-- the lines of a world, or its sums
abbrev pub last_lines : Bool → World → List ℕ
last_lines true w = summed w
last_lines false w = printed w

-- the steps are printed, where they are shown
abbrev pub StepsShown : Bool → List ℕ → List ℕ → Type 0
StepsShown true text steps = AreStepsOf text steps
StepsShown false text steps = steps ≡ []

-- the steps are printed first, where they are shown, and these lines last; between them stand frames, where those are
-- shown
abbrev pub PrintsDay : Shown → List ℕ → Option (List ℕ) → Option (List ℕ) → List ℕ → Type 0
PrintsDay shown text before after lines =
    (steps : List ℕ) × (rest : List ℕ) × Appends before after (steps ++ rest)
    × StepsShown shown.steps text steps
    × ShowsLast shown.frames rest lines

-- how a run on a text ends, by where its lines lead, and by the bytes that the output held before and holds after: the
-- steps are printed where they are shown, and then the world or its sums; or the line is named that is bad, or whose
-- crash can't be. Only the input, memory and the output can fail besides, and nothing is printed but where steps are
-- shown or the output fails
abbrev pub EndsRun : Shown → List ℕ → Option (List ℕ) → Option (List ℕ) → Ending → {A : Type 0}
    → Result A CommandFault → Type 0
EndsRun shown text before after (Over day) (Ok done) =
    PrintsDay shown text before after (last_lines shown.summary day.world)
EndsRun shown text before after ended (Ok done) = ⊥
EndsRun shown text before after (Over day) (Err WriteFailed) = Unit {0}
EndsRun shown text before after ending (Err fault) =
    IsFaultOf shown.steps fault ending × (shown.steps ≡ false → Keeps before after)

-- how a check of an input ends: it is told that the text is a script, or the first bad line is named. Only the input,
-- memory and the output can fail besides, and nothing is printed but where the output fails
abbrev pub EndsCheck : Option (List ℕ) → Option (List ℕ) → Option ℕ → {A : Type 0} → Result A CommandFault → Type 0
EndsCheck before after None (Ok done) = Appends before after (codes "script ok" ++ 10 ∷ [])
EndsCheck before after (Some line) (Ok done) = ⊥
EndsCheck before after None (Err WriteFailed) = Unit {0}
EndsCheck before after bad (Err fault) = IsOfReading fault bad × Keeps before after

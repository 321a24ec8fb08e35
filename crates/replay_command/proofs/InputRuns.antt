-- What is left to run of an input, and to check, line by line.
use Rattle.std.proofs.Common.{◌≡◌, ℕ, suc, ◌+◌, true, false, Bool, List, [], ◌∷◌, Option, Some, None, Result, Ok, Err, refl, sym, ap, subst, ◌∙◌, add-one}
use Rattle.std.specs.Prelude.{IfErr, IfSome, OnOk}
use Rattle.schedule.specs.Script.{lines_of}
use Rattle.script.specs.declared.day_event.DayEvent.{DayEvent}
use Rattle.script.specs.DayScript.{bad_here, bad_line, day_said_by}
use Rattle.world_restart.specs.Start.{Day}
use Rattle.replay_command.specs.declared.fault.CommandFault.{CommandFault}
use Rattle.replay_command.specs.declared.fault.CommandFault.TheVariants.{CommandLine, BadLine, Impossible, NoFile, PictureIsThere, PictureFailed, ReadFailed, WriteFailed, OutOfMemory}
use Rattle.replay_command.specs.Days.{Ending, event_end, lines_end, said_end}
use Rattle.replay_command.specs.Days.Ending.{Over, BadAt, ImpossibleAt}
use Rattle.replay_command.specs.Stream.{Checks, GivesEvent, IsFaultOf, IsOfInput, IsOfReading, IsOfRun, ReadsLine, RunsLine, RunsTo}
use Rattle.replay_command.proofs.InputLeft.{LeftSame, answered, asked_so, line_left, none_left, of_none}
use Rattle.replay_command.proofs.InputLeft as left

-- a fault of the input may come of whatever it says
pub of_input : (fault : CommandFault) (bad : Option ℕ) → IsOfInput fault → IsOfReading fault bad
of_input (CommandLine error) bad is = absurd is
of_input (BadLine number) bad is = absurd is
of_input (Impossible number why) bad is = absurd is
of_input NoFile bad is = absurd is
of_input (PictureIsThere name) bad is = absurd is
of_input (PictureFailed name) bad is = absurd is
of_input ReadFailed bad is = tt
of_input WriteFailed bad is = absurd is
of_input OutOfMemory bad is = tt

pub run_of_input : (steps : Bool) (fault : CommandFault) (ending : Ending) → IsOfInput fault → IsFaultOf steps fault ending
run_of_input steps (CommandLine error) ending is = absurd is
run_of_input steps (BadLine number) ending is = absurd is
run_of_input steps (Impossible number why) ending is = absurd is
run_of_input steps NoFile ending is = absurd is
run_of_input steps (PictureIsThere name) ending is = absurd is
run_of_input steps (PictureFailed name) ending is = absurd is
run_of_input steps ReadFailed ending is = tt
run_of_input steps WriteFailed ending is = absurd is
run_of_input steps OutOfMemory ending is = tt

-- and so may a fault of a run
pub of_run : (steps : Bool) (fault : CommandFault) (ending : Ending) → IsOfRun steps fault → IsFaultOf steps fault ending
of_run steps (CommandLine error) ending is = absurd is
of_run steps (BadLine number) ending is = absurd is
of_run steps (Impossible number why) ending is = absurd is
of_run steps NoFile ending is = absurd is
of_run steps (PictureIsThere name) ending is = absurd is
of_run steps (PictureFailed name) ending is = absurd is
of_run steps ReadFailed ending is = absurd is
of_run steps WriteFailed ending is = is
of_run steps OutOfMemory ending is = tt

-- where a line ends it, the lines behind change nothing
bad_stays : (venues number at : ℕ) (lines : List (List ℕ)) → lines_end venues number lines (BadAt at) ≡ BadAt at
bad_stays venues number at [] = refl
bad_stays venues number at (line ∷ lines) = bad_stays venues (suc number) at lines

impossible_stays : (venues number at : ℕ) (lines : List (List ℕ))
    → lines_end venues number lines (ImpossibleAt at) ≡ ImpossibleAt at
impossible_stays venues number at [] = refl
impossible_stays venues number at (line ∷ lines) = impossible_stays venues (suc number) at lines

fault_stays : (steps : Bool) (fault : CommandFault) (venues number : ℕ) (lines : List (List ℕ)) (ending : Ending)
    → IsFaultOf steps fault ending → IsFaultOf steps fault (lines_end venues number lines ending)
fault_stays steps (CommandLine error) venues number lines ending is = absurd is
fault_stays steps (BadLine at) venues number lines ending is =
    ap (lines_end venues number lines) is ∙ bad_stays venues number at lines
fault_stays steps (Impossible at why) venues number lines ending is =
    ap (lines_end venues number lines) is ∙ impossible_stays venues number at lines
fault_stays steps NoFile venues number lines ending is = absurd is
fault_stays steps (PictureIsThere name) venues number lines ending is = absurd is
fault_stays steps (PictureFailed name) venues number lines ending is = absurd is
fault_stays steps ReadFailed venues number lines ending is = tt
fault_stays steps WriteFailed venues number lines ending is = is
fault_stays steps OutOfMemory venues number lines ending is = tt

-- the lines that are left lead from the day now to where all lines lead
abbrev pub LeftToRun : ℕ → Option (List ℕ) → ℕ → Day → Option (List ℕ) → ℕ → Day → Type 0
LeftToRun venues left number now bytes first day =
    LeftSame (λ (ls : List (List ℕ)). lines_end venues number ls (Over now)) left bytes
    (λ (all : List ℕ). lines_end venues first (lines_of all) (Over day))

pub all_left : (venues first : ℕ) (day : Day) (bytes : Option (List ℕ)) → LeftToRun venues bytes first day bytes first day
all_left venues first day bytes =
    left.all_left (λ (ls : List (List ℕ)). lines_end venues first ls (Over day)) bytes
    (λ (all : List ℕ). lines_end venues first (lines_of all) (Over day)) (λ all. refl)

pub input_fails : (steps : Bool) (venues first : ℕ) (bytes : Option (List ℕ)) (day : Day) (fault : CommandFault)
    → IsOfInput fault
    → IfSome bytes (λ (all : List ℕ). RunsTo steps (Err fault) (lines_end venues first (lines_of all) (Over day)))
input_fails steps venues first None day fault is = tt
input_fails steps venues first (Some bytes) day fault is =
    run_of_input steps fault (lines_end venues first (lines_of bytes) (Over day)) is

-- there is no further line
pub ended : (steps : Bool) (venues number first : ℕ) (left behind bytes : Option (List ℕ)) (line : List ℕ) (now day : Day)
    → IfSome left (ReadsLine false line behind) → LeftToRun venues left number now bytes first day
    → IfSome bytes (λ (all : List ℕ). RunsTo steps (Ok now) (lines_end venues first (lines_of all) (Over day)))
ended steps venues number first left behind bytes line now day read so_far =
    of_none (RunsTo steps (Ok now)) (Over now) bytes (λ (all : List ℕ). lines_end venues first (lines_of all) (Over day)) refl
    (none_left (λ (ls : List (List ℕ)). lines_end venues number ls (Over now)) left behind bytes line
    (λ (all : List ℕ). lines_end venues first (lines_of all) (Over day)) read so_far)

-- a line that was read comes first
pub line_read : (venues number first : ℕ) (left behind bytes : Option (List ℕ)) (read line : List ℕ) (lines : List (List ℕ))
    (now day : Day) → IfSome left (ReadsLine true read behind) → lines_of read ≡ line ∷ lines
    → LeftToRun venues left number now bytes first day
    → LeftSame (λ (ls : List (List ℕ)). lines_end venues (suc number) ls (said_end number now (day_said_by venues line)))
    behind bytes (λ (all : List ℕ). lines_end venues first (lines_of all) (Over day))
line_read venues number first left behind bytes read line lines now day reads is so_far =
    line_left (λ (ls : List (List ℕ)). lines_end venues number ls (Over now)) left behind bytes read line lines
    (λ (all : List ℕ). lines_end venues first (lines_of all) (Over day)) reads is so_far

pub goes_on : (steps : Bool) (venues number first : ℕ) (left behind bytes : Option (List ℕ)) (read line : List ℕ)
    (lines : List (List ℕ)) (now after day : Day) → IfSome left (ReadsLine true read behind) → lines_of read ≡ line ∷ lines
    → RunsLine steps (Ok tt) after (said_end number now (day_said_by venues line))
    → LeftToRun venues left number now bytes first day → LeftToRun venues behind (number + 1) after bytes first day
goes_on steps venues number first left behind bytes read line lines now after day reads is runs so_far =
    asked_so (λ (ls : List (List ℕ)). lines_end venues (suc number) ls (said_end number now (day_said_by venues line)))
    (λ (ls : List (List ℕ)). lines_end venues (number + 1) ls (Over after)) behind bytes
    (λ (all : List ℕ). lines_end venues first (lines_of all) (Over day))
    (λ ls. ap (λ (n : ℕ). lines_end venues n ls (Over after)) (add-one number)
    ∙ ap (lines_end venues (suc number) ls) (sym runs))
    (line_read venues number first left behind bytes read line lines now day reads is so_far)

pub run_fails : (steps : Bool) (venues number first : ℕ) (left behind bytes : Option (List ℕ)) (read line : List ℕ)
    (lines : List (List ℕ)) (now after day : Day) (fault : CommandFault) → IfSome left (ReadsLine true read behind)
    → lines_of read ≡ line ∷ lines
    → RunsLine steps (Err fault) after (said_end number now (day_said_by venues line))
    → LeftToRun venues left number now bytes first day
    → IfSome bytes (λ (all : List ℕ). RunsTo steps (Err fault) (lines_end venues first (lines_of all) (Over day)))
run_fails steps venues number first left behind bytes read line lines now after day fault reads is runs so_far =
    answered (IsFaultOf steps fault)
    (λ (ls : List (List ℕ)). lines_end venues (suc number) ls (said_end number now (day_said_by venues line))) behind bytes
    (λ (all : List ℕ). lines_end venues first (lines_of all) (Over day))
    (λ ls. fault_stays steps fault venues (suc number) ls (said_end number now (day_said_by venues line)) runs)
    (line_read venues number first left behind bytes read line lines now day reads is so_far)

-- a line whose event isn't given fails the run; one that says nothing runs; and one runs as its event does
pub line_not_given : (steps : Bool) (number : ℕ) (now after : Day) (said : Option (Option DayEvent)) (fault : CommandFault)
    → GivesEvent (Err fault) number said → RunsLine steps (Err fault) after (said_end number now said)
line_not_given steps number now after None fault is =
    subst (λ (f : CommandFault). IsFaultOf steps f (BadAt number)) (sym is) refl
line_not_given steps number now after (Some said) fault is =
    subst (λ (f : CommandFault). IsFaultOf steps f (said_end number now (Some said))) (sym is) tt

pub nothing_said : (steps : Bool) (number : ℕ) (now : Day) (said : Option (Option DayEvent))
    → GivesEvent (Ok None) number said → RunsLine steps (Ok tt) now (said_end number now said)
nothing_said steps number now None gives = absurd gives
nothing_said steps number now (Some said) gives =
    ap (λ (s : Option DayEvent). said_end number now (Some s)) (sym gives)

pub event_said : (number : ℕ) (now : Day) (said : Option (Option DayEvent)) (event : DayEvent)
    → GivesEvent (Ok (Some event)) number said → event_end number now event ≡ said_end number now said
event_said number now None event gives = absurd gives
event_said number now (Some said) event gives = ap (λ (s : Option DayEvent). said_end number now (Some s)) gives

-- the same of lines that are read and not run
abbrev pub LeftToCheck : ℕ → Option (List ℕ) → ℕ → Option (List ℕ) → ℕ → Type 0
LeftToCheck venues left number bytes first =
    LeftSame (bad_line venues number) left bytes (λ (all : List ℕ). bad_line venues first (lines_of all))

pub all_to_check : (venues first : ℕ) (bytes : Option (List ℕ)) → LeftToCheck venues bytes first bytes first
all_to_check venues first bytes =
    left.all_left (bad_line venues first) bytes (λ (all : List ℕ). bad_line venues first (lines_of all)) (λ all. refl)

pub check_input_fails : (venues first : ℕ) (bytes : Option (List ℕ)) (fault : CommandFault) → IsOfInput fault
    → IfSome bytes (λ (all : List ℕ). Checks (Err fault) (bad_line venues first (lines_of all)))
check_input_fails venues first None fault is = tt
check_input_fails venues first (Some bytes) fault is = of_input fault (bad_line venues first (lines_of bytes)) is

pub check_ended : (venues number first : ℕ) (left behind bytes : Option (List ℕ)) (line : List ℕ)
    → IfSome left (ReadsLine false line behind) → LeftToCheck venues left number bytes first
    → IfSome bytes (λ (all : List ℕ). Checks (Ok tt) (bad_line venues first (lines_of all)))
check_ended venues number first left behind bytes line read so_far =
    of_none (Checks (Ok tt)) None bytes (λ (all : List ℕ). bad_line venues first (lines_of all)) tt
    (none_left (bad_line venues number) left behind bytes line (λ (all : List ℕ). bad_line venues first (lines_of all))
    read so_far)

check_line : (venues number first : ℕ) (left behind bytes : Option (List ℕ)) (read line : List ℕ) (lines : List (List ℕ))
    → IfSome left (ReadsLine true read behind) → lines_of read ≡ line ∷ lines → LeftToCheck venues left number bytes first
    → LeftSame (λ (ls : List (List ℕ)). bad_here number (day_said_by venues line) (bad_line venues (suc number) ls)) behind
    bytes (λ (all : List ℕ). bad_line venues first (lines_of all))
check_line venues number first left behind bytes read line lines reads is so_far =
    line_left (bad_line venues number) left behind bytes read line lines
    (λ (all : List ℕ). bad_line venues first (lines_of all)) reads is so_far

good : (number : ℕ) (event : Option DayEvent) (said : Option (Option DayEvent)) (later : Option ℕ)
    → GivesEvent (Ok event) number said → later ≡ bad_here number said later
good number event None later gives = absurd gives
good number event (Some said) later gives = refl

pub check_goes_on : (venues number first : ℕ) (left behind bytes : Option (List ℕ)) (read line : List ℕ)
    (lines : List (List ℕ)) (event : Option DayEvent) → IfSome left (ReadsLine true read behind)
    → lines_of read ≡ line ∷ lines → GivesEvent (Ok event) number (day_said_by venues line)
    → LeftToCheck venues left number bytes first → LeftToCheck venues behind (number + 1) bytes first
check_goes_on venues number first left behind bytes read line lines event reads is gives so_far =
    asked_so (λ (ls : List (List ℕ)). bad_here number (day_said_by venues line) (bad_line venues (suc number) ls))
    (bad_line venues (number + 1)) behind bytes (λ (all : List ℕ). bad_line venues first (lines_of all))
    (λ ls. ap (λ (n : ℕ). bad_line venues n ls) (add-one number)
    ∙ good number event (day_said_by venues line) (bad_line venues (suc number) ls) gives)
    (check_line venues number first left behind bytes read line lines reads is so_far)

event_fails : (number : ℕ) (said : Option (Option DayEvent)) (fault : CommandFault) (later : Option ℕ)
    → GivesEvent (Err fault) number said → IsOfReading fault (bad_here number said later)
event_fails number None fault later is = subst (λ (f : CommandFault). IsOfReading f (Some number)) (sym is) refl
event_fails number (Some said) fault later is = subst (λ (f : CommandFault). IsOfReading f later) (sym is) tt

pub check_fails : (venues number first : ℕ) (left behind bytes : Option (List ℕ)) (read line : List ℕ)
    (lines : List (List ℕ)) (fault : CommandFault) → IfSome left (ReadsLine true read behind)
    → lines_of read ≡ line ∷ lines → GivesEvent (Err fault) number (day_said_by venues line)
    → LeftToCheck venues left number bytes first
    → IfSome bytes (λ (all : List ℕ). Checks (Err fault) (bad_line venues first (lines_of all)))
check_fails venues number first left behind bytes read line lines fault reads is gives so_far =
    answered (IsOfReading fault)
    (λ (ls : List (List ℕ)). bad_here number (day_said_by venues line) (bad_line venues (suc number) ls)) behind bytes
    (λ (all : List ℕ). bad_line venues first (lines_of all))
    (λ ls. event_fails number (day_said_by venues line) fault (bad_line venues (suc number) ls) gives)
    (check_line venues number first left behind bytes read line lines reads is so_far)

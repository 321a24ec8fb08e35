-- What `--steps` prints of a day: a line for each event, as it happens.
use Rattle.std.specs.Prelude.{◌≡◌, ℕ, suc, ◌+◌, Bool, true, false, List, [], ◌∷◌, ◌++◌, codes, decimal, length, Option, Some, None, Result, Ok, Err}
use Rattle.std.specs.Io.KnownBytes.{Appends}
use Rattle.schedule.specs.Happening.{happens}
use Rattle.script.specs.declared.day_event.DayEvent.{DayEvent}
use Rattle.script.specs.declared.day_event.DayEvent.TheVariants.{Goes, Crash}
use Rattle.script.specs.DayScript.{BegunScript, begun_of, day_said_by}
use Rattle.world_restart.specs.Start.{Day, day_started}
use Rattle.world_restart.specs.Day.{after_event}
use Rattle.replay.specs.Telling.{told}
use Rattle.event_text.specs.declared.settled.Settled.{Settled}
use Rattle.event_text.specs.Before.{before_of}
use Rattle.event_text.specs.Step.{IsStepText, none_settled, settled_now}
use Rattle.event_text.specs.Crash.{IsCrashText, settled_again}
use Rattle.replay_command.specs.Days.{first_day}

-- how far a day was told: the day, how many events it had, and which legs were told as settled
pub record Told : Type 0 where
  pub day : Day
  pub events : ℕ
  pub settled : Settled

-- a day before its first event, and after one more
abbrev pub dawn : Day → Told
dawn day = record { day = day; events = 0; settled = none_settled }

abbrev pub told_after : Told → DayEvent → Told
told_after before (Goes event) = record {
  day = after_event before.day event;
  events = before.events + 1;
  settled = settled_now (happens before.day.world event) before.settled (before_of before.day.world event).at;
}
told_after before (Crash loss) = record {
  day = day_started before.day loss;
  events = before.events + 1;
  settled = settled_again (day_started before.day loss).world;
}

-- this text says what the event did in the day
abbrev pub AreDeeds : Told → DayEvent → List ℕ → Type 0
AreDeeds before (Goes event) text =
    IsStepText before.settled (before_of before.day.world event) (happens before.day.world event)
    (told before.day.world event) text
AreDeeds before (Crash loss) text = IsCrashText text

-- as `3 line 7 drop 0: S1L1 dropped`: the event's number, its line, and what it did
abbrev pub step_line : ℕ → ℕ → List ℕ → List ℕ → List ℕ
step_line number place line deeds =
    (decimal number ++ (codes " line " ++ (decimal place ++ codes " "))) ++ line ++ codes ": " ++ deeds ++ codes "\n"

-- what an event did is printed
abbrev pub PrintsDeeds : Told → DayEvent → ℕ → List ℕ → Option (List ℕ) → Option (List ℕ) → Type 0
PrintsDeeds before event number line out new =
    (deeds : List ℕ) × AreDeeds before event deeds
    × Appends out new (step_line (before.events + 1) number line deeds)

-- a line prints nothing, where it is passed over, or the step of what it says
abbrev pub IsStep : Told → Told → ℕ → List ℕ → Option (Option DayEvent) → List ℕ → Type 0
IsStep before later number line None text = ⊥
IsStep before later number line (Some None) text = (later ≡ before) × (text ≡ [])
IsStep before later number line (Some (Some event)) text =
    (later ≡ told_after before event)
    × (deeds : List ℕ) × AreDeeds before event deeds
    × (text ≡ step_line (before.events + 1) number line deeds)

-- the steps of lines, of which the first has this number
abbrev pub AreSteps : ℕ → Told → ℕ → List (List ℕ) → List ℕ → Type 0
AreSteps venues before number [] text = text ≡ []
AreSteps venues before number (line ∷ lines) text =
    (later : Told) × (step : List ℕ) × (rest : List ℕ)
    × IsStep before later number line (day_said_by venues line) step
    × AreSteps venues later (suc number) lines rest
    × (text ≡ step ++ rest)

-- those of a script, behind its first line
abbrev pub AreStepsBehind : Result BegunScript ℕ → List ℕ → Type 0
AreStepsBehind (Err line) steps = ⊥
AreStepsBehind (Ok begun) steps =
    AreSteps (length begun.head.venues) (dawn (first_day begun.head)) begun.number begun.lines steps

abbrev pub AreStepsOf : List ℕ → List ℕ → Type 0
AreStepsOf text steps = AreStepsBehind (begun_of text) steps

-- they are printed: of lines, and of a text
abbrev pub PrintsLines : ℕ → Told → ℕ → List (List ℕ) → Option (List ℕ) → Option (List ℕ) → Type 0
PrintsLines venues before number lines out new =
    (steps : List ℕ) × Appends out new steps × AreSteps venues before number lines steps

abbrev pub PrintsSteps : List ℕ → Option (List ℕ) → Option (List ℕ) → Type 0
PrintsSteps text out new = (steps : List ℕ) × Appends out new steps × AreStepsOf text steps

-- of a line
abbrev pub PrintsLine : Told → Told → ℕ → List ℕ → Option (Option DayEvent) → Option (List ℕ) → Option (List ℕ) → Type 0
PrintsLine before later number line said out new =
    (step : List ℕ) × Appends out new step × IsStep before later number line said step

-- How a run on an input ends.
use Rattle.std.proofs.Common.{◌≡◌, ◌++◌, ℕ, Bool, true, false, List, [], ◌∷◌, length, Option, Some, None, Result, Ok, Err, refl, sym, ap, subst}
use Rattle.std.specs.Prelude.{IfSome}
use Rattle.std.specs.Io.KnownBytes.{Appends}
use Rattle.schedule.specs.Script.{lines_of}
use Rattle.script.specs.DayScript.{BegunScript, begun_of}
use Rattle.world_restart.specs.Start.{Day}
use Rattle.replay_command.specs.declared.begun.Begun.{Begun}
use Rattle.replay_command.specs.declared.fault.CommandFault.{CommandFault}
use Rattle.replay_command.specs.declared.shown.Shown.{Shown}
use Rattle.replay_command.specs.Days.{Ending, end_behind, end_of, first_day, lines_end}
use Rattle.replay_command.specs.Days.Ending.{Over, BadAt, ImpossibleAt}
use Rattle.replay_command.specs.Steps.{PrintsSteps}
use Rattle.replay_command.specs.Stream.{Begins, EndsRun, RunsTo, ShowsLast, StepsShown, last_lines}
use Rattle.replay_command.proofs.Grown.{behind}

-- the lines behind the first lead to the day of the script
pub day_runs : (steps : Bool) (result : Result Day CommandFault) (bytes left : Option (List ℕ)) (begun : Begun) (day : Day)
    → IfSome bytes (λ (all : List ℕ). Begins (Ok begun) left (begun_of all)) → day ≡ first_day begun.head
    → IfSome left (λ (rest : List ℕ). RunsTo steps result
    (lines_end (length begun.head.venues) begun.number (lines_of rest) (Over day)))
    → IfSome bytes (λ (all : List ℕ). RunsTo steps result (end_of all))
day_runs steps result None left begun day begins is runs = tt
day_runs steps result (Some all) left begun day begins is runs =
    let here = subst (λ (l : Option (List ℕ)). IfSome l (λ (rest : List ℕ). RunsTo steps result
    (lines_end (length begun.head.venues) begun.number (lines_of rest) (Over day)))) begins.1 runs in
    subst (λ (s : Result BegunScript ℕ). RunsTo steps result (end_behind s)) (sym begins.2)
    (subst (λ (d : Day). RunsTo steps result
    (lines_end (length begun.head.venues) begun.number (lines_of begins.0) (Over d))) is here)

-- the steps are printed, where they are shown
steps_first : (on : Bool) (text : List ℕ) (a b : Option (List ℕ)) → (on ≡ true → PrintsSteps text a b) → (on ≡ false → b ≡ a)
    → (steps : List ℕ) × ((c : Option (List ℕ)) (rest : List ℕ) → Appends b c rest → Appends a c (steps ++ rest))
    × StepsShown on text steps
steps_first true text a b prints same =
    let printed = prints refl in
    (printed.0, λ c rest. behind a b c printed.0 rest printed.1, printed.2)
steps_first false text a b prints same =
    ([], λ c rest. subst (λ (o : Option (List ℕ)). Appends o c rest) (same refl), refl)

-- and then the world
ends_printed : {A : Type 0} (done : A) (shown : Shown) (text : List ℕ) (a b c : Option (List ℕ)) (ending : Ending) (day : Day)
    (rest : List ℕ) → RunsTo shown.steps (Ok day) ending → (shown.steps ≡ true → PrintsSteps text a b)
    → (shown.steps ≡ false → b ≡ a) → ShowsLast shown.frames rest (last_lines shown.summary day.world) → Appends b c rest
    → EndsRun shown text a c ending (Ok done)
ends_printed done shown text a b c (BadAt line) day rest runs prints same shows appends = absurd runs
ends_printed done shown text a b c (ImpossibleAt line) day rest runs prints same shows appends = absurd runs
ends_printed done shown text a b c (Over last) day rest runs prints same shows appends =
    let first = steps_first shown.steps text a b prints same in (
      first.0,
      rest,
      first.1 c rest appends,
      first.2,
      subst (ShowsLast shown.frames rest) (ap (λ (d : Day). last_lines shown.summary d.world) runs) shows,
    )

-- the same of an input, whose bytes may be known
pub day_printed : {A : Type 0} (done : A) (shown : Shown) (bytes a b c : Option (List ℕ)) (day : Day) (rest : List ℕ)
    → IfSome bytes (λ (all : List ℕ). RunsTo shown.steps (Ok day) (end_of all))
    → (shown.steps ≡ true → IfSome bytes (λ (all : List ℕ). PrintsSteps all a b))
    → (shown.steps ≡ false → b ≡ a) → ShowsLast shown.frames rest (last_lines shown.summary day.world) → Appends b c rest
    → IfSome bytes (λ (all : List ℕ). EndsRun shown all a c (end_of all) (Ok done))
day_printed done shown None a b c day rest runs prints same shows appends = tt
day_printed done shown (Some all) a b c day rest runs prints same shows appends =
    ends_printed done shown all a b c (end_of all) day rest runs prints same shows appends

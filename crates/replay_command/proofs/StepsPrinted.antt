-- The steps that lines print, one line after the other.
use Rattle.std.proofs.Common.{◌≡◌, ℕ, suc, ◌+◌, true, false, List, [], ◌∷◌, ◌++◌, length, Option, Some, None, Result, Ok, Err, refl, sym, ap, subst, add-one}
use Rattle.std.specs.Prelude.{IfSome, OnOk}
use Rattle.std.specs.Io.BufRead.{drop_through}
use Rattle.std.specs.Io.KnownBytes.{Appends}
use Rattle.std.proofs.lemmas.List.{append-nil, append_assoc}
use Rattle.schedule.specs.Script.{lines_of}
use Rattle.schedule.specs.declared.event.Event.{Event}
use Rattle.schedule.specs.World.{World}
use Rattle.schedule.specs.Happening.{happens}
use Rattle.script.specs.declared.day_event.DayEvent.{DayEvent}
use Rattle.script.specs.declared.day_event.DayEvent.TheVariants.{Goes}
use Rattle.replay.specs.declared.event_outcome.EventOutcome.{EventOutcome}
use Rattle.replay.specs.Telling as telling
use Rattle.event_text.specs.declared.before.Before.{Before}
use Rattle.event_text.specs.declared.settled.Settled.{Settled}
use Rattle.event_text.specs.Before.{before_of}
use Rattle.event_text.specs.Step.{IsStepText}
use Rattle.script.specs.DayScript.{BegunScript, begun_of, day_said_by}
use Rattle.world_restart.specs.Start.{Day}
use Rattle.replay_command.specs.declared.begun.Begun.{Begun}
use Rattle.replay_command.specs.declared.fault.CommandFault.{CommandFault}
use Rattle.replay_command.specs.Days.{first_day}
use Rattle.replay_command.specs.Steps.{AreSteps, AreStepsBehind, IsStep, PrintsDeeds, PrintsLine, PrintsLines, PrintsSteps, Told, dawn, step_line, told_after}
use Rattle.replay_command.specs.Stream.{Begins, GivesEvent, ReadsLine}
use Rattle.replay_command.proofs.Grown.{behind}
use Rattle.replay_command.proofs.InputLines.{next_line}

-- nothing is printed
nothing : (out : Option (List ℕ)) → Appends out out []
nothing None = tt
nothing (Some xs) = sym (append-nil xs)

-- what is printed so far, with what is left to print, is what is to be printed of the whole
abbrev pub LeftToPrint : ℕ → Option (List ℕ) → ℕ → Told → Option (List ℕ) → Option (List ℕ) → ℕ → Told → Option (List ℕ)
    → Type 0
LeftToPrint venues left number now out None first told start = Unit {0}
LeftToPrint venues left number now out (Some bytes) first told start =
    (rest : List ℕ) × (left ≡ Some rest) × (so_far : List ℕ) × Appends start out so_far
    × ((text : List ℕ) → AreSteps venues now number (lines_of rest) text
    → AreSteps venues told first (lines_of bytes) (so_far ++ text))

pub all_to_print : (venues first : ℕ) (told : Told) (bytes start : Option (List ℕ))
    → LeftToPrint venues bytes first told start bytes first told start
all_to_print venues first told None start = tt
all_to_print venues first told (Some bytes) start = (bytes, refl, [], nothing start, λ text steps. steps)

pub prints_on : (venues number first : ℕ) (left rest_left bytes start out new : Option (List ℕ)) (read line : List ℕ)
    (lines : List (List ℕ)) (now later told : Told) → IfSome left (ReadsLine true read rest_left)
    → lines_of read ≡ line ∷ lines → PrintsLine now later number line (day_said_by venues line) out new
    → LeftToPrint venues left number now out bytes first told start
    → LeftToPrint venues rest_left (number + 1) later new bytes first told start
prints_on venues number first left rest_left None start out new read line lines now later told reads is prints so_far = tt
prints_on venues number first left rest_left (Some bytes) start out new read line lines now later told reads is prints so_far =
    let here = subst (λ (l : Option (List ℕ)). IfSome l (ReadsLine true read rest_left)) so_far.1 reads in
    let next = lines_of (drop_through 10 so_far.0) in (
      drop_through 10 so_far.0,
      here.2,
      so_far.2 ++ prints.0,
      behind start out new so_far.2 prints.0 so_far.3 prints.1,
      λ text steps. subst (AreSteps venues told first (lines_of bytes)) (sym (append_assoc so_far.2 prints.0 text))
          (so_far.4 (prints.0 ++ text)
          (subst (λ (ls : List (List ℕ)). AreSteps venues now number ls (prints.0 ++ text))
          (sym (next_line so_far.0 read line lines here.0 here.1 is)) (
            later,
            prints.0,
            text,
            prints.2,
            subst (λ (n : ℕ). AreSteps venues later n next text) (add-one number) steps,
            refl,
          ))),
    )

-- there is no further line
pub printed_all : (venues number first : ℕ) (left rest_left bytes start out : Option (List ℕ)) (line : List ℕ)
    (now told : Told) → IfSome left (ReadsLine false line rest_left)
    → LeftToPrint venues left number now out bytes first told start
    → IfSome bytes (λ (all : List ℕ). PrintsLines venues told first (lines_of all) start out)
printed_all venues number first left rest_left None start out line now told read so_far = tt
printed_all venues number first left rest_left (Some bytes) start out line now told read so_far =
    let none = subst (λ (l : Option (List ℕ)). IfSome l (ReadsLine false line rest_left)) so_far.1 read in (
      so_far.2,
      so_far.3,
      subst (AreSteps venues told first (lines_of bytes)) (append-nil so_far.2)
          (so_far.4 [] (subst (λ (b : List ℕ). AreSteps venues now number (lines_of b) []) (sym none) refl)),
    )

-- a line that is passed over prints nothing
pub passed_line : (number : ℕ) (line : List ℕ) (told : Told) (said : Option (Option DayEvent)) (out : Option (List ℕ))
    → GivesEvent (Ok None) number said → PrintsLine told told number line said out out
passed_line number line told None out gives = absurd gives
passed_line number line told (Some None) out gives = ([], nothing out, (refl, refl))
passed_line number line told (Some (Some event)) out gives = absurd cc

-- and one whose event happens its step
same_event : (event said : DayEvent) → Some event ≡ Some said → event ≡ said
same_event event said is = cc

pub printed_line : {A : Type 0} (number : ℕ) (line : List ℕ) (now later : Told) (said : Option (Option DayEvent)) (event : DayEvent)
    (out new : Option (List ℕ)) (result : Result A CommandFault) → GivesEvent (Ok (Some event)) number said
    → OnOk result (later ≡ told_after now event) → OnOk result (PrintsDeeds now event number line out new)
    → OnOk result (PrintsLine now later number line said out new)
printed_line number line now later said event out new (Err fault) gives is step = tt
printed_line number line now later None event out new (Ok done) gives is step = absurd gives
printed_line number line now later (Some None) event out new (Ok done) gives is step = absurd cc
printed_line number line now later (Some (Some said)) event out new (Ok done) gives is step =
    subst (λ (e : DayEvent). PrintsLine now later number line (Some (Some e)) out new) (same_event event said gives)
    (step_line (now.events + 1) number line step.0, step.2, (is, step.0, step.1, refl))

-- the steps of a script, behind its first line
pub day_prints : {A : Type 0} (result : Result A CommandFault) (bytes left start out : Option (List ℕ)) (begun : Begun)
    (day : Day) → IfSome bytes (λ (all : List ℕ). Begins (Ok begun) left (begun_of all)) → day ≡ first_day begun.head
    → OnOk result (IfSome left (λ (rest : List ℕ).
    PrintsLines (length begun.head.venues) (dawn day) begun.number (lines_of rest) start out))
    → OnOk result (IfSome bytes (λ (all : List ℕ). PrintsSteps all start out))
day_prints (Err fault) bytes left start out begun day begins is prints = tt
day_prints (Ok done) None left start out begun day begins is prints = tt
day_prints (Ok done) (Some all) left start out begun day begins is prints =
    let printed = subst (λ (l : Option (List ℕ)). IfSome l (λ (rest : List ℕ).
    PrintsLines (length begun.head.venues) (dawn day) begun.number (lines_of rest) start out)) begins.1 prints in (
      printed.0,
      printed.1,
      subst (λ (s : Result BegunScript ℕ). AreStepsBehind s printed.0) (sym begins.2)
          (subst (λ (d : Day). AreSteps (length begun.head.venues) (dawn d) begun.number (lines_of begins.0) printed.0) is
          printed.2),
    )

-- what an event did is printed, from what its calls gave
pub printed_deeds : {A : Type 0} (old : Told) (event : Event) (number : ℕ) (line : List ℕ) (out new : Option (List ℕ))
    (result : Result A CommandFault) (day : Day) (events : ℕ) (settled : Settled) (before : Before) (w : World)
    (what : EventOutcome) (deeds : List ℕ)
    → ◌≡◌ {A = Told} (record { day = day; events = events; settled = settled }) old
    → before ≡ before_of day.world event → w ≡ happens day.world event → what ≡ telling.told day.world event
    → IsStepText settled before w what deeds → OnOk result (Appends out new (step_line (events + 1) number line deeds))
    → OnOk result (PrintsDeeds old (Goes event) number line out new)
printed_deeds old event number line out new (Err fault) day events settled before w what deeds is be after said text made =
    tt
printed_deeds old event number line out new (Ok done) day events settled before w what deeds is be after said text made =
    let one = subst (λ (b : Before). IsStepText settled b w what deeds) be text in
    let two = subst (λ (x : World). IsStepText settled (before_of day.world event) x what deeds) after one in
    let three = subst (λ (o : EventOutcome). IsStepText settled (before_of day.world event) (happens day.world event) o
    deeds) said two in
    subst (λ (t : Told). PrintsDeeds t (Goes event) number line out new) is (deeds, three, made)

-- How `dispatch live` ends, by what its words ask for.
use Rattle.std.specs.Prelude.{◌≡◌, ◌⊎◌, ◌+◌, ◌*◌, ℕ, Bool, true, false, List, Option, Result, Ok, Err}
use Rattle.std.specs.Io.KnownBytes.{Appends, Keeps}
use Rattle.clap.specs.declared.parser.matches.ArgMatches.{ArgMatches}
use Rattle.command_line.specs.ExitStatus.{exit_status}
use Rattle.live_load.specs.Config.{venues_to}
use Rattle.live_load.specs.declared.day.LiveDay.{LiveDay}
use Rattle.live_load.specs.declared.live_plan.LivePlan.{LivePlan}
use Rattle.live_load.specs.Day.{shares_each}
use Rattle.live_load.specs.Told.{IsLiveDay}
use Rattle.live_command.specs.declared.fault.CommandFault.{CommandFault}
use Rattle.live_command.specs.declared.fault.CommandFault.TheVariants.{
  CommandLine,
  NoNumber,
  WriteFailed,
  NoSocket,
  NoThread,
  NoAnswer,
  OutOfMemory,
}
use Rattle.live_command.specs.declared.options.Options.{Options}
use Rattle.live_command.specs.Fault.{fault_status}
use Rattle.live_command.specs.LiveOption.{AreOptions}
use Rattle.live_command.specs.LivePlan.{plan_of}
use Rattle.live_command.specs.LiveText.{day_text}

-- a fault of the words, or out of memory
abbrev pub IsOfWords : CommandFault → Type 0
IsOfWords (CommandLine error) = Unit {0}
IsOfWords (NoNumber option) = Unit {0}
IsOfWords OutOfMemory = Unit {0}
IsOfWords other = ⊥

-- a day of the plan's venues was audited, and all its shares were placed but those of the sweeps that were given up
pub record IsDay (plan : LivePlan) (day : LiveDay) : Type 0 where
  pub live_day : IsLiveDay (venues_to plan.venues) day
  pub placed : day.report.placed + day.unplaced * shares_each plan
      ≡ plan.callers * (plan.sweeps * shares_each plan)

-- the text of such a day is printed, in which an exchange answered or none did
pub record PrintsDay (plan : LivePlan) (answered : Bool) (before after : Option (List ℕ)) : Type 0 where
  pub day : LiveDay
  pub is_day : IsDay plan day
  pub answered_is : day.is_answered ≡ answered
  pub printed : Appends before after (day_text day)

-- how a run ends that is asked for this day: it is printed, or nothing is; and no audit fails
abbrev pub EndsDay : LivePlan → Option (List ℕ) → Option (List ℕ) → {A : Type 0} → Result A CommandFault → Type 0
EndsDay plan before after (Ok done) = PrintsDay plan true before after
EndsDay plan before after (Err NoAnswer) = PrintsDay plan false before after
EndsDay plan before after (Err WriteFailed) = Unit {0}
EndsDay plan before after (Err NoSocket) = Keeps before after
EndsDay plan before after (Err NoThread) = Keeps before after
EndsDay plan before after (Err OutOfMemory) = Keeps before after
EndsDay plan before after (Err other) = ⊥

-- how a run ends that is asked for the day of its options, or has a bad value among them
abbrev pub EndsAsked : Result LivePlan CommandFault → Option (List ℕ) → Option (List ℕ) → {A : Type 0}
    → Result A CommandFault → Type 0
EndsAsked (Ok plan) before after done = EndsDay plan before after done
EndsAsked (Err fault) before after done = (done ≡ Err fault) × Keeps before after

-- the words are refused, and nothing is printed
abbrev pub IsRefused : Option (List ℕ) → Option (List ℕ) → {A : Type 0} → Result A CommandFault → Type 0
IsRefused before after (Ok done) = ⊥
IsRefused before after (Err fault) = IsOfWords fault × Keeps before after

-- how a run ends: its words are refused, or it does what they ask for
abbrev pub EndsRun : Option (List ℕ) → Option (List ℕ) → {A : Type 0} → Result A CommandFault → Type 0
EndsRun before after done =
    IsRefused before after done
    ⊎ ((matches : ArgMatches) × (options : Options) × AreOptions matches options
    × EndsAsked (plan_of options) before after done)

-- a run that ends so has this exit status
abbrev pub ExitsSo : Option (List ℕ) → Option (List ℕ) → ℕ → Type 0
ExitsSo before after status =
    (done : Result (Unit {0}) CommandFault) × (status ≡ exit_status fault_status done) × EndsRun before after done

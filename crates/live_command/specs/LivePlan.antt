-- The day that `dispatch live` is asked to run: what the texts of its options make.
use Rattle.std.specs.Prelude.{ℕ, ◌&&◌, List, Option, Some, None, Result, Ok, nat_le, if◌then◌else◌, option_and_then}
use Rattle.std.specs.Option.{ok_or}
use Rattle.fix_text.specs.Then.{◌>>=◌}
use Rattle.fix_tags.specs.Number.{number_of}
use Rattle.live_load.specs.declared.live_plan.LivePlan.{LivePlan}
use Rattle.live_command.specs.declared.fault.CommandFault.{CommandFault}
use Rattle.live_command.specs.declared.fault.CommandFault.TheVariants.{BadNumber}
use Rattle.live_command.specs.declared.option.LiveOption.{LiveOption}
use Rattle.live_command.specs.declared.option.LiveOption.TheVariants as Of
use Rattle.live_command.specs.declared.options.Options.{Options}

-- the number of an option's text, if it has one
abbrev pub given : {A : Type 0} → LiveOption → Option A → Result A CommandFault
given option value = ok_or value (BadNumber option)

-- a number from the least to the most
abbrev pub within : ℕ → ℕ → ℕ → Option ℕ
within least most number = if nat_le least number && nat_le number most then Some number else None

-- the number of a text, from the least to the most
abbrev pub number_in : ℕ → ℕ → List ℕ → Option ℕ
number_in least most text = option_and_then (within least most) (number_of text)

-- the day, or the first bad value in the order of the options
unfoldable pub plan_of : Options → Result LivePlan CommandFault
plan_of options = do
  venues ← given Of.Venues (number_in 1 16 options.venues.now)
  callers ← given Of.Callers (number_in 1 64 options.callers.now)
  sweeps ← given Of.Sweeps (number_in 1 1000000 options.sweeps.now)
  cut ← given Of.Cut (number_in 0 1000000 options.cut.now)
  turns ← given Of.Turns (number_in 1 1000000 options.turns.now)
  Ok (record {
    venues = venues;
    callers = callers;
    sweeps = sweeps;
    cut = cut;
    turns = turns;
    cuts_short = options.cuts_short;
  })

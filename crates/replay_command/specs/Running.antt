-- How `dispatch replay` ends, by what its words ask for.
use Rattle.std.specs.Prelude.{◌≡◌, ◌⊎◌, ℕ, List, true, Option, IfSome, is_none, Result, Ok, Err}
use Rattle.std.specs.Io.KnownBytes.{Keeps}
use Rattle.clap.specs.declared.parser.matches.ArgMatches.{ArgMatches}
use Rattle.script.specs.DayScript.{bad_line_of}
use Rattle.command_line.specs.ExitStatus.{exit_status}
use Rattle.replay_command.specs.declared.asked.Asked.{Asked}
use Rattle.replay_command.specs.declared.asked.Task.{Task}
use Rattle.replay_command.specs.declared.asked.Task.TheVariants.{Check, Run}
use Rattle.replay_command.specs.declared.fault.CommandFault.{CommandFault}
use Rattle.replay_command.specs.Asked.{IsAsked}
use Rattle.replay_command.specs.Days.{end_of}
use Rattle.replay_command.specs.Fault.{IsOfCommandLine, IsOfPicture, fault_status}
use Rattle.replay_command.specs.Stream.{EndsCheck, EndsRun}

-- how what is asked for ends on a text
abbrev pub EndsTask : Task → Option (List ℕ) → Option (List ℕ) → List ℕ → {A : Type 0} → Result A CommandFault → Type 0
EndsTask Check before after text done = EndsCheck before after (bad_line_of text) done
EndsTask (Run shown) before after text done = EndsRun shown text before after (end_of text) done

-- the words are refused, and nothing is printed
abbrev pub IsRefused : Option (List ℕ) → Option (List ℕ) → {A : Type 0} → Result A CommandFault → Type 0
IsRefused before after (Ok done) = ⊥
IsRefused before after (Err fault) = IsOfCommandLine fault × Keeps before after

-- what is asked for ends so on the bytes of the input, unless a file is named, of whose bytes nothing is known
abbrev pub EndsScript : Option (List ℕ) → Option (List ℕ) → Option (List ℕ) → Asked → {A : Type 0}
    → Result A CommandFault → Type 0
EndsScript input before after asked done =
    is_none asked.file ≡ true → IfSome input (λ bytes. EndsTask asked.task before after bytes done)

-- all was done
abbrev pub all_done : Result (Unit {0}) CommandFault
all_done = Ok tt

-- a picture was asked for, and couldn't be had or not be written; the day was printed all the same
abbrev pub IsNotDrawn : Option (List ℕ) → Option (List ℕ) → Option (List ℕ) → Asked → {A : Type 0}
    → Result A CommandFault → Type 0
IsNotDrawn input before after asked (Ok done) = ⊥
IsNotDrawn input before after asked (Err fault) =
    IsOfPicture fault × (is_none asked.ladder ≡ true → ⊥)
    × EndsScript input before after asked all_done

-- and so it ends with a picture, but where the picture fails
abbrev pub EndsAsked : Option (List ℕ) → Option (List ℕ) → Option (List ℕ) → Asked → {A : Type 0}
    → Result A CommandFault → Type 0
EndsAsked input before after asked done =
    EndsScript input before after asked done ⊎ IsNotDrawn input before after asked done

-- how a run ends: its words are refused, or it does what they ask for
abbrev pub EndsReplay : Option (List ℕ) → Option (List ℕ) → Option (List ℕ) → {A : Type 0} → Result A CommandFault
    → Type 0
EndsReplay input before after done =
    IsRefused before after done
    ⊎ ((matches : ArgMatches) × (asked : Asked) × IsAsked matches asked × EndsAsked input before after asked done)

-- a run that ends so has this exit status
abbrev pub ExitsSo : Option (List ℕ) → Option (List ℕ) → Option (List ℕ) → ℕ → Type 0
ExitsSo input before after status =
    (done : Result (Unit {0}) CommandFault) × (status ≡ exit_status fault_status done)
    × EndsReplay input before after done

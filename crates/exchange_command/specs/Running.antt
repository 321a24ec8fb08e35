-- How `dispatch exchange` ends, by what its words ask for.
use Rattle.std.specs.Prelude.{◌≡◌, ◌⊎◌, ℕ, List, ◌++◌, Option, Result, Ok, Err}
use Rattle.std.specs.Io.KnownBytes.{Appends, Keeps}
use Rattle.clap.specs.declared.parser.matches.ArgMatches.{ArgMatches}
use Rattle.command_line.specs.ExitStatus.{exit_status}
use Rattle.exchange_command.specs.declared.exchange_plan.ExchangePlan.{ExchangePlan}
use Rattle.exchange_command.specs.declared.fault.CommandFault.{CommandFault}
use Rattle.exchange_command.specs.declared.fault.CommandFault.TheVariants.{NoSocket, AcceptFailed, WriteFailed, OutOfMemory}
use Rattle.exchange_command.specs.declared.options.Options.{Options}
use Rattle.exchange_command.specs.ExchangePlan.{plan_of}
use Rattle.exchange_command.specs.ExchangeText.{accepted_text, listening_text}
use Rattle.exchange_command.specs.Fault.{IsOfWords, fault_status}
use Rattle.exchange_command.specs.Options.{AreOptions}

-- a fault of an exchange that listens
abbrev pub IsOfServing : CommandFault → Type 0
IsOfServing AcceptFailed = Unit {0}
IsOfServing OutOfMemory = Unit {0}
IsOfServing other = ⊥

-- how an exchange ends that has said where it listens, by the bytes that the output held then and holds at the end
abbrev pub EndsServed : Option (List ℕ) → Option (List ℕ) → {A : Type 0} → Result A CommandFault → Type 0
EndsServed before after (Ok done) = (accepted : ℕ) × Appends before after (accepted_text accepted)
EndsServed before after (Err AcceptFailed) = Keeps before after
EndsServed before after (Err OutOfMemory) = Keeps before after
EndsServed before after (Err WriteFailed) = Unit {0}
EndsServed before after (Err other) = ⊥

-- how an exchange ends that is as planned, by the bytes that the output held before and holds after
abbrev pub EndsPlan : Option (List ℕ) → Option (List ℕ) → ExchangePlan → {A : Type 0} → Result A CommandFault → Type 0
EndsPlan before after plan (Ok done) =
    (accepted : ℕ) × Appends before after (listening_text plan.port ++ accepted_text accepted)
EndsPlan before after plan (Err NoSocket) = Keeps before after
EndsPlan before after plan (Err AcceptFailed) = Appends before after (listening_text plan.port)
EndsPlan before after plan (Err OutOfMemory) =
    Keeps before after ⊎ Appends before after (listening_text plan.port)
EndsPlan before after plan (Err WriteFailed) = Unit {0}
EndsPlan before after plan (Err other) = ⊥

-- the same of one whose options make this plan, or are refused
abbrev pub EndsServing : Option (List ℕ) → Option (List ℕ) → Result ExchangePlan CommandFault → {A : Type 0}
    → Result A CommandFault → Type 0
EndsServing before after (Ok plan) done = EndsPlan before after plan done
EndsServing before after (Err fault) (Ok done) = ⊥
EndsServing before after (Err fault) (Err told) = (told ≡ fault) × Keeps before after

-- the words are refused, and nothing is printed
abbrev pub IsRefused : Option (List ℕ) → Option (List ℕ) → {A : Type 0} → Result A CommandFault → Type 0
IsRefused before after (Ok done) = ⊥
IsRefused before after (Err fault) = IsOfWords fault × Keeps before after

-- how a run ends: its words are refused, or it serves as its options ask for
abbrev pub EndsRun : Option (List ℕ) → Option (List ℕ) → {A : Type 0} → Result A CommandFault → Type 0
EndsRun before after done =
    IsRefused before after done
    ⊎ ((matches : ArgMatches) × (options : Options) × AreOptions matches options
    × EndsServing before after (plan_of options) done)

-- a run that ends so has this exit status
abbrev pub ExitsSo : Option (List ℕ) → Option (List ℕ) → ℕ → Type 0
ExitsSo before after status =
    (done : Result (Unit {0}) CommandFault) × (status ≡ exit_status fault_status done) × EndsRun before after done

-- How `dispatch run` ends.
use Rattle.std.specs.Prelude.{◌≡◌, ℕ, List, Option, Result, Ok, Err}
use Rattle.std.specs.Io.KnownBytes.{Keeps}
use Rattle.command_line.specs.ExitStatus.{exit_status}
use Rattle.run_command.specs.Ending.{EndsOpen, EndsWell}
use Rattle.run_file.specs.Fault.{fault_status, IfOpen}
use Rattle.run_file.specs.declared.fault.CommandFault.{CommandFault}
use Rattle.run_file.specs.declared.fault.CommandFault.TheVariants.{
  CommandLine,
  NoName,
  BadPatience,
  BadRefs,
  NoFile,
  NotText,
  BadFile,
  NoToken,
  SameToken,
  NoPassword,
}

-- what is said of a fault of the words, of the file or of a password, which comes before anything is dialled or printed
abbrev pub IfBeforeDay : Type 0 → CommandFault → Type 0
IfBeforeDay said (CommandLine error) = said
IfBeforeDay said NoName = said
IfBeforeDay said BadPatience = said
IfBeforeDay said BadRefs = said
IfBeforeDay said (NoFile name) = said
IfBeforeDay said (NotText name) = said
IfBeforeDay said (BadFile name fault) = said
IfBeforeDay said (NoToken user file fault) = said
IfBeforeDay said (SameToken user) = said
IfBeforeDay said (NoPassword venue file why) = said
IfBeforeDay said other = Unit {0}

-- a fault of a day that was begun
abbrev pub IsOfDay : CommandFault → Type 0
IsOfDay fault = IfBeforeDay ⊥ fault

-- how a run ends, by the bytes that the output held before and holds after: a fault of the words, of the file or of a
-- password prints nothing; without a fault the file is told to be a day's, or its day was audited and is printed; and
-- so is a day that leaves something open
abbrev pub EndsRun : Option (List ℕ) → Option (List ℕ) → {A : Type 0} → Result A CommandFault → Type 0
EndsRun before after (Ok done) = EndsWell before after
EndsRun before after (Err fault) = IfBeforeDay (Keeps before after) fault × IfOpen (EndsOpen after) fault

-- a run that ends so has this exit status
abbrev pub ExitsSo : Option (List ℕ) → Option (List ℕ) → ℕ → Type 0
ExitsSo before after status =
    (done : Result (Unit {0}) CommandFault) × (status ≡ exit_status fault_status done) × EndsRun before after done

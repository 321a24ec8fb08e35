-- Faults of an input and of the command line are nothing that a day leaves open.
use Rattle.command_line.specs.declared.input.InputFault.{InputFault}
use Rattle.command_line.specs.declared.input.InputFault.TheVariants as input
use Rattle.run_file.specs.Fault.{input_fault, IfOpen, IsOfCommandLine}
use Rattle.run_file.specs.declared.fault.CommandFault.{CommandFault}
use Rattle.run_file.specs.declared.fault.CommandFault.TheVariants.{
  CommandLine,
  NoName,
  BadPatience,
  BadRefs,
  NoFile,
  NotText,
  BadFile,
  NoToken,
  SameToken,
  NoPassword,
  NoPage,
  NoLines,
  NoLogs,
  NoJournal,
  ReadFailed,
  WriteFailed,
  NoSocket,
  NoThread,
  OutOfMemory,
  MismatchQueue,
  MismatchShares,
  MismatchPlaced,
  GivenUp,
  Unbooked,
}

-- what can't be had of an input is nothing that a day leaves open
pub of_input : (fault : InputFault) → IfOpen ⊥ (input_fault fault)
of_input input.ReadFailed = tt
of_input input.OutOfMemory = tt

-- neither is a fault of the command line
pub of_words : (fault : CommandFault) → IsOfCommandLine fault → IfOpen ⊥ fault
of_words (CommandLine error) it = tt
of_words OutOfMemory it = tt
of_words GivenUp it = it
of_words Unbooked it = it
of_words NoName it = absurd it
of_words BadPatience it = absurd it
of_words BadRefs it = absurd it
of_words (NoFile name) it = absurd it
of_words (NotText name) it = absurd it
of_words (BadFile name fault) it = absurd it
of_words (NoToken user file fault) it = absurd it
of_words (SameToken user) it = absurd it
of_words NoPage it = absurd it
of_words (NoPassword venue file why) it = absurd it
of_words NoLines it = absurd it
of_words (NoLogs fault) it = absurd it
of_words (NoJournal refused) it = absurd it
of_words ReadFailed it = absurd it
of_words WriteFailed it = absurd it
of_words NoSocket it = absurd it
of_words NoThread it = absurd it
of_words MismatchQueue it = absurd it
of_words MismatchShares it = absurd it
of_words MismatchPlaced it = absurd it

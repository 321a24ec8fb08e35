-- The faults of the program's own: those of words that run no command.
use Rattle.std.specs.Prelude.{ℕ}
use Rattle.dispatch_main.specs.declared.fault.ProgramFault.{ProgramFault}
use Rattle.dispatch_main.specs.declared.fault.ProgramFault.TheVariants.{
  NoCommand,
  CommandLine,
  ReadFailed,
  NotText,
  WriteFailed,
  OutOfMemory,
}

-- the status that tells a fault
abbrev pub fault_status : ProgramFault → ℕ
fault_status (NoCommand help) = 2
fault_status (CommandLine error) = 2
fault_status ReadFailed = 4
fault_status NotText = 4
fault_status WriteFailed = 4
fault_status OutOfMemory = 5

-- a fault of the command line, or out of memory
abbrev pub IsOfCommandLine : ProgramFault → Type 0
IsOfCommandLine (NoCommand help) = Unit {0}
IsOfCommandLine (CommandLine error) = Unit {0}
IsOfCommandLine OutOfMemory = Unit {0}
IsOfCommandLine other = ⊥

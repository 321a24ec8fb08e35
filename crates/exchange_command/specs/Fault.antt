-- The faults of `dispatch exchange`.
use Rattle.std.specs.Prelude.{ℕ}
use Rattle.exchange_command.specs.declared.fault.CommandFault.{CommandFault}
use Rattle.exchange_command.specs.declared.fault.CommandFault.TheVariants.{CommandLine, NoValue, BadValue, NoSocket, AcceptFailed, WriteFailed, OutOfMemory}

-- the status that tells a fault
abbrev pub fault_status : CommandFault → ℕ
fault_status (CommandLine error) = 2
fault_status (NoValue option) = 2
fault_status (BadValue option) = 3
fault_status NoSocket = 4
fault_status AcceptFailed = 4
fault_status WriteFailed = 4
fault_status OutOfMemory = 5

-- a fault of the command line, or out of memory
abbrev pub IsOfCommandLine : CommandFault → Type 0
IsOfCommandLine (CommandLine error) = Unit {0}
IsOfCommandLine OutOfMemory = Unit {0}
IsOfCommandLine other = ⊥

-- a fault of the words, or out of memory
abbrev pub IsOfWords : CommandFault → Type 0
IsOfWords (CommandLine error) = Unit {0}
IsOfWords (NoValue option) = Unit {0}
IsOfWords OutOfMemory = Unit {0}
IsOfWords other = ⊥

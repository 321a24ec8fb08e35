-- The faults of `dispatch check`.
use Rattle.std.specs.Prelude.{◌≡◌, ℕ, List, string_bytes}
use Rattle.check_command.specs.declared.fault.CommandFault.{CommandFault}
use Rattle.check_command.specs.declared.fault.CommandFault.TheVariants.{CommandLine, BadDesk, BadName, OfLog, WriteFailed, OutOfMemory}
use Rattle.day_check.specs.declared.fault.LogFault.{LogFault}
use Rattle.day_check.specs.declared.fault.LogFault.TheVariants as log

-- the status that tells the fault of a log
abbrev pub log_status : LogFault → ℕ
log_status (log.BadLine number fault) = 3
log_status log.NoDialect = 3
log_status log.ReadFailed = 4
log_status log.WriteFailed = 4
log_status log.OutOfMemory = 5

-- the status that tells a fault
abbrev pub fault_status : CommandFault → ℕ
fault_status (CommandLine error) = 2
fault_status BadDesk = 2
fault_status BadName = 2
fault_status (OfLog path fault) = log_status fault
fault_status WriteFailed = 4
fault_status OutOfMemory = 5

-- a fault of the command line, or out of memory
abbrev pub IsOfCommandLine : CommandFault → Type 0
IsOfCommandLine (CommandLine error) = Unit {0}
IsOfCommandLine BadDesk = Unit {0}
IsOfCommandLine OutOfMemory = Unit {0}
IsOfCommandLine other = ⊥

-- a fault of a log, or out of memory, or one of the output
abbrev pub IsOfLogs : CommandFault → Type 0
IsOfLogs (OfLog path fault) = Unit {0}
IsOfLogs WriteFailed = Unit {0}
IsOfLogs OutOfMemory = Unit {0}
IsOfLogs other = ⊥

-- a fault of the words, and of the names of the logs among them
abbrev pub IsOfWords : CommandFault → Type 0
IsOfWords (CommandLine error) = Unit {0}
IsOfWords BadDesk = Unit {0}
IsOfWords BadName = Unit {0}
IsOfWords other = ⊥

-- a fault of the log at this path names it, unless there is no memory for that
abbrev pub IsNamed : List ℕ → LogFault → CommandFault → Type 0
IsNamed path fault (OfLog named given) = (string_bytes named ≡ path) × (given ≡ fault)
IsNamed path fault OutOfMemory = Unit {0}
IsNamed path fault other = ⊥

-- the fault of the log at this path, or one of the output, or out of memory
abbrev pub IsOfLog : List ℕ → LogFault → CommandFault → Type 0
IsOfLog path (log.BadLine number fault) given = IsNamed path (log.BadLine number fault) given
IsOfLog path log.NoDialect given = IsNamed path log.NoDialect given
IsOfLog path log.ReadFailed given = IsNamed path log.ReadFailed given
IsOfLog path log.WriteFailed given = given ≡ WriteFailed
IsOfLog path log.OutOfMemory given = given ≡ OutOfMemory

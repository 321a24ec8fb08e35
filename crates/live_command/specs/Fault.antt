-- The faults of `dispatch live`.
use Rattle.std.specs.Prelude.{ℕ}
use Rattle.desk_venues.specs.declared.day_fault.DayFault.{DayFault}
use Rattle.desk_venues.specs.declared.day_fault.DayFault.TheVariants as day
use Rattle.live_command.specs.declared.fault.CommandFault.{CommandFault}
use Rattle.live_command.specs.declared.fault.CommandFault.TheVariants.{
  CommandLine,
  NoNumber,
  BadNumber,
  WriteFailed,
  NoSocket,
  NoThread,
  NoAnswer,
  OutOfMemory,
  MismatchQueue,
  MismatchShares,
  MismatchPlaced,
}

-- the status that tells a fault
abbrev pub fault_status : CommandFault → ℕ
fault_status (CommandLine error) = 2
fault_status (NoNumber option) = 2
fault_status (BadNumber option) = 3
fault_status WriteFailed = 4
fault_status NoSocket = 4
fault_status NoThread = 4
fault_status NoAnswer = 4
fault_status OutOfMemory = 5
fault_status MismatchQueue = 6
fault_status MismatchShares = 6
fault_status MismatchPlaced = 6

-- a fault of the command line, or out of memory
abbrev pub IsOfCommandLine : CommandFault → Type 0
IsOfCommandLine (CommandLine error) = Unit {0}
IsOfCommandLine OutOfMemory = Unit {0}
IsOfCommandLine other = ⊥

-- the fault of a day that can't be run, or whose audit fails. A day over loopback keeps no logs, has no page and takes
-- no lines
abbrev pub day_fault : DayFault → CommandFault
day_fault (day.NoLogs fault) = NoSocket
day_fault (day.NoJournal refused) = NoSocket
day_fault day.NoPage = NoSocket
day_fault day.NoLines = NoSocket
day_fault day.NoSocket = NoSocket
day_fault day.NoThread = NoThread
day_fault day.OutOfMemory = OutOfMemory
day_fault day.MismatchQueue = MismatchQueue
day_fault day.MismatchShares = MismatchShares
day_fault day.MismatchPlaced = MismatchPlaced

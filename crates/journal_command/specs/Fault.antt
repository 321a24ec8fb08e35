-- The faults of `dispatch journal`.
use Rattle.std.specs.Prelude.{◌≡◌, ℕ}
use Rattle.journal_words.specs.declared.fault.WordsFault.{WordsFault}
use Rattle.journal_log.specs.declared.fault.LogFault.{LogFault}
use Rattle.journal_log.specs.declared.fault.LogFault.TheVariants as log
use Rattle.journal_command.specs.declared.fault.CommandFault.{CommandFault}
use Rattle.journal_command.specs.declared.fault.CommandFault.TheVariants.{CommandLine, NoFolder, NoJournal, NoVenue, Broken, OtherHead, BadLine, ReadFailed, WriteFailed, LogWantsMemory, OutOfMemory}

-- the status that tells a fault
abbrev pub fault_status : CommandFault → ℕ
fault_status (CommandLine error) = 2
fault_status NoFolder = 2
fault_status NoJournal = 3
fault_status (NoVenue name) = 3
fault_status (Broken name why) = 8
fault_status (OtherHead name) = 3
fault_status (BadLine name number why) = 3
fault_status (ReadFailed path) = 4
fault_status WriteFailed = 4
fault_status LogWantsMemory = 5
fault_status OutOfMemory = 5

-- a fault of the words, or out of memory
abbrev pub IsOfWords : CommandFault → Type 0
IsOfWords (CommandLine error) = Unit {0}
IsOfWords NoFolder = Unit {0}
IsOfWords OutOfMemory = Unit {0}
IsOfWords other = ⊥

-- a fault of the folder, or out of memory
abbrev pub IsOfFolder : CommandFault → Type 0
IsOfFolder NoJournal = Unit {0}
IsOfFolder (NoVenue name) = Unit {0}
IsOfFolder (Broken name why) = Unit {0}
IsOfFolder (OtherHead name) = Unit {0}
IsOfFolder (ReadFailed path) = Unit {0}
IsOfFolder OutOfMemory = Unit {0}
IsOfFolder other = ⊥

-- a fault of the line of this number, or out of memory within the log
abbrev pub IsOfLine : ℕ → WordsFault → CommandFault → Type 0
IsOfLine number why (BadLine name at said) = (at ≡ number) × (said ≡ why)
IsOfLine number why LogWantsMemory = Unit {0}
IsOfLine number why other = ⊥

-- the fault of a log that ends early
abbrev pub IsStop : LogFault → CommandFault → Type 0
IsStop (log.Line number why) fault = IsOfLine number why fault
IsStop log.WriteFailed fault = fault ≡ WriteFailed
IsStop log.OutOfMemory fault = fault ≡ LogWantsMemory

-- The faults of `dispatch run`.
use Rattle.std.specs.Prelude.{ℕ}
use Rattle.command_line.specs.declared.input.InputFault.{InputFault}
use Rattle.command_line.specs.declared.input.InputFault.TheVariants as input
use Rattle.desk_config.specs.declared.fault.ConfigFault.{ConfigFault}
use Rattle.desk_config.specs.declared.fault.ConfigFault.TheVariants as config
use Rattle.day_log.specs.declared.fault.LogFault.{LogFault}
use Rattle.day_log.specs.declared.fault.LogFault.TheVariants as log
use Rattle.journal_folder.specs.declared.restart_fault.RestartFault.{RestartFault}
use Rattle.journal_folder.specs.declared.restart_fault.RestartFault.TheVariants as journal
use Rattle.journal_folder.specs.declared.fault.FolderFault.{FolderFault}
use Rattle.journal_folder.specs.declared.fault.FolderFault.TheVariants as folder
use Rattle.secret_file.specs.declared.fault.SecretFault.{SecretFault}
use Rattle.secret_file.specs.declared.fault.SecretFault.TheVariants as secret
use Rattle.desk_venues.specs.declared.day_fault.DayFault.{DayFault}
use Rattle.desk_venues.specs.declared.day_fault.DayFault.TheVariants as day
use Rattle.desk_floor.specs.declared.talk_fault.TalkFault.{TalkFault}
use Rattle.desk_floor.specs.declared.talk_fault.TalkFault.TheVariants as talk
use Rattle.toml.specs.Errors.{IsMemory}
use Rattle.run_file.specs.declared.fault.CommandFault.{CommandFault}
use Rattle.run_file.specs.declared.fault.CommandFault.TheVariants.{
  CommandLine,
  NoName,
  BadPatience,
  BadRefs,
  NoFile,
  NotText,
  BadFile,
  NoToken,
  SameToken,
  NoPassword,
  NoPage,
  NoLines,
  NoLogs,
  NoJournal,
  ReadFailed,
  WriteFailed,
  NoSocket,
  NoThread,
  OutOfMemory,
  MismatchQueue,
  MismatchShares,
  MismatchPlaced,
  GivenUp,
  Unbooked,
}

-- the status that tells why the logs of a day can't be begun
abbrev pub log_status : LogFault → ℕ
log_status log.NameTaken = 3
log_status (log.Exists file) = 3
log_status (log.CantLook file) = 4
log_status log.NoFolder = 4
log_status (log.CantWrite file) = 4
log_status log.OutOfMemory = 5

-- the status that tells why a folder of journals can't be used
abbrev pub folder_status : FolderFault → ℕ
folder_status folder.NoFolder = 4
folder_status folder.Taken = 4
folder_status (folder.CantRead file) = 4
folder_status (folder.CantWrite file) = 4
folder_status folder.OutOfMemory = 5
folder_status other = 3

-- and why a day can't go on from its journals
abbrev pub journal_status : RestartFault → ℕ
journal_status (journal.Folder fault) = folder_status fault
journal_status (journal.Desk fault) = folder_status fault
journal_status (journal.Venue name fault) = folder_status fault
journal_status (journal.Ended at) = 3
journal_status (journal.DeskLine line) = 3
journal_status (journal.VenueLine name line) = 3
journal_status journal.OutOfMemory = 5

-- and why a file gives no secret
abbrev pub secret_status : SecretFault → ℕ
secret_status secret.OpenToOthers = 3
secret_status (secret.BadLine most) = 3
secret_status secret.NoFile = 4
secret_status secret.ReadFailed = 4
secret_status secret.OutOfMemory = 5

-- the status that tells a fault
abbrev pub fault_status : CommandFault → ℕ
fault_status (CommandLine error) = 2
fault_status NoName = 2
fault_status BadPatience = 3
fault_status BadRefs = 3
fault_status (NotText name) = 3
fault_status (BadFile name fault) = 3
fault_status (NoToken user file fault) = secret_status fault
fault_status (SameToken user) = 3
fault_status (NoFile name) = 4
fault_status (NoPassword venue file why) = 4
fault_status NoPage = 4
fault_status NoLines = 4
fault_status ReadFailed = 4
fault_status WriteFailed = 4
fault_status NoSocket = 4
fault_status NoThread = 4
fault_status (NoLogs fault) = log_status fault
fault_status (NoJournal refused) = journal_status refused.fault
fault_status OutOfMemory = 5
fault_status MismatchQueue = 6
fault_status MismatchShares = 6
fault_status MismatchPlaced = 6
fault_status GivenUp = 7
fault_status Unbooked = 9

-- a fault of the command line, or out of memory
abbrev pub IsOfCommandLine : CommandFault → Type 0
IsOfCommandLine (CommandLine error) = Unit {0}
IsOfCommandLine OutOfMemory = Unit {0}
IsOfCommandLine other = ⊥

-- the fault of an input that can't be had
abbrev pub input_fault : InputFault → CommandFault
input_fault input.ReadFailed = ReadFailed
input_fault input.OutOfMemory = OutOfMemory

-- why no line was taken any more
abbrev pub talk_fault : TalkFault → CommandFault
talk_fault talk.ReadFailed = ReadFailed
talk_fault talk.WriteFailed = WriteFailed
talk_fault talk.OutOfMemory = OutOfMemory

-- the fault of a day that can't be run, or whose audit fails
abbrev pub day_fault : DayFault → CommandFault
day_fault (day.NoLogs fault) = NoLogs fault
day_fault (day.NoJournal refused) = NoJournal refused
day_fault day.NoPage = NoPage
day_fault day.NoLines = NoLines
day_fault day.NoSocket = NoSocket
day_fault day.NoThread = NoThread
day_fault day.OutOfMemory = OutOfMemory
day_fault day.MismatchQueue = MismatchQueue
day_fault day.MismatchShares = MismatchShares
day_fault day.MismatchPlaced = MismatchPlaced

-- a file gives no configuration for lack of memory
abbrev pub WantsMemory : ConfigFault → Type 0
WantsMemory (config.Toml error) = IsMemory error
WantsMemory (config.Key fault) = ⊥
WantsMemory config.OutOfMemory = Unit {0}

-- a file gives no secret for lack of memory
abbrev pub LacksMemory : SecretFault → Type 0
LacksMemory secret.OutOfMemory = Unit {0}
LacksMemory other = ⊥

-- out of memory isn't told as a fault of the file, or of one with a secret
abbrev pub IsToldSo : CommandFault → Type 0
IsToldSo (BadFile name fault) = ¬ WantsMemory fault
IsToldSo (NoToken user file fault) = ¬ LacksMemory fault
IsToldSo (NoPassword venue file why) = ¬ LacksMemory why
IsToldSo other = Unit {0}

-- what is said of a fault that tells what an audited day leaves open: a session that was given up, a leg in doubt, or a
-- report that the book didn't take
abbrev pub IfOpen : Type 0 → CommandFault → Type 0
IfOpen said GivenUp = said
IfOpen said Unbooked = said
IfOpen said other = Unit {0}

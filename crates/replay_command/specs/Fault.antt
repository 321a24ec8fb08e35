-- The faults of `dispatch replay`.
use Rattle.std.specs.Prelude.{ℕ}
use Rattle.replay_command.specs.declared.fault.CommandFault.{CommandFault}
use Rattle.replay_command.specs.declared.fault.CommandFault.TheVariants.{
  CommandLine,
  BadLine,
  Impossible,
  NoFile,
  PictureIsThere,
  PictureFailed,
  ReadFailed,
  WriteFailed,
  OutOfMemory,
}

-- the status that tells a fault
abbrev pub fault_status : CommandFault → ℕ
fault_status (CommandLine error) = 2
fault_status (BadLine number) = 3
fault_status (Impossible line why) = 3
fault_status NoFile = 4
fault_status (PictureIsThere name) = 4
fault_status (PictureFailed name) = 4
fault_status ReadFailed = 4
fault_status WriteFailed = 4
fault_status OutOfMemory = 5

-- the picture can't be had or not be written: its file is there already, can't be made or not be written
abbrev pub IsOfPicture : CommandFault → Type 0
IsOfPicture OutOfMemory = Unit {0}
IsOfPicture (PictureIsThere name) = Unit {0}
IsOfPicture (PictureFailed name) = Unit {0}
IsOfPicture other = ⊥

-- a fault of the command line, or out of memory
abbrev pub IsOfCommandLine : CommandFault → Type 0
IsOfCommandLine (CommandLine error) = Unit {0}
IsOfCommandLine OutOfMemory = Unit {0}
IsOfCommandLine other = ⊥

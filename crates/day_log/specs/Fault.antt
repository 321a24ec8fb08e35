-- Why a day's logs can't be begun, in words.
use Rattle.std.specs.Prelude.{ℕ, List, ◌++◌, codes}
use Rattle.day_log.specs.declared.fault.LogFault.{LogFault}
use Rattle.day_log.specs.declared.fault.LogFault.TheVariants.{NameTaken, Exists, CantLook, NoFolder, CantWrite, OutOfMemory}
use Rattle.day_log.specs.Header.{file_text}

-- as `NYSE.log is there already`
abbrev pub fault_text : LogFault → List ℕ
fault_text NameTaken = codes "a venue is called sweeps, as the log of the lines is"
fault_text (Exists file) = file_text file ++ codes " is there already"
fault_text (CantLook file) = file_text file ++ codes " can't be looked up"
fault_text NoFolder = codes "the folder can't be made"
fault_text (CantWrite file) = file_text file ++ codes " can't be written"
fault_text OutOfMemory = codes "out of memory"

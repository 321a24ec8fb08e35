-- Why a log can't be checked, in words.
use Rattle.std.specs.Prelude.{ℕ, List, codes, Option, Some, None}
use Rattle.day_check.specs.declared.fault.LogFault.{LogFault}
use Rattle.day_check.specs.declared.fault.LogFault.TheVariants.{BadLine, NoDialect, ReadFailed, WriteFailed, OutOfMemory}

-- what is said of it; of a line that says nothing `log_text` tells
abbrev pub fault_text : LogFault → Option (List ℕ)
fault_text (BadLine number fault) = None
fault_text NoDialect = Some (codes "the log's head names no dialect")
fault_text ReadFailed = Some (codes "read failed")
fault_text WriteFailed = Some (codes "write failed")
fault_text OutOfMemory = Some (codes "out of memory")

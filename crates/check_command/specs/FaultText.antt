-- What is told of a fault, and what to do.
use Rattle.std.specs.Prelude.{◌≡◌, ℕ, List, ◌++◌, codes, IfSome, Option, Some, None, option_map, string_bytes}
use Rattle.day_check.specs.Fault as log
use Rattle.day_check.specs.ToldFault.{fault_line}
use Rattle.day_check.specs.declared.fault.LogFault.{LogFault}
use Rattle.day_check.specs.declared.fault.LogFault.TheVariants.{BadLine, NoDialect}
use Rattle.check_command.specs.declared.fault.CommandFault.{CommandFault}
use Rattle.check_command.specs.declared.fault.CommandFault.TheVariants.{CommandLine, BadDesk, BadName, OfLog, WriteFailed, OutOfMemory}

-- what is said of a fault; of one of the command line its parser tells, and of a line that says nothing `log_text`
abbrev pub fault_text : CommandFault → Option (List ℕ)
fault_text (CommandLine error) = None
fault_text BadDesk = Some (codes "--desk takes a comp id, 1 to 16 printable characters without spaces")
fault_text (OfLog path fault) = option_map (λ text. string_bytes path ++ codes ": " ++ text) (log.fault_text fault)
fault_text BadName =
    Some (codes "beside sweeps.log each log is called after its venue, as NYSE.log, at most 16 and no two alike")
fault_text WriteFailed = Some (codes "write failed")
fault_text OutOfMemory = Some (codes "out of memory")

-- the log that is at fault, where one is, and the line
abbrev pub log_of : CommandFault → Option (List ℕ)
log_of (OfLog path fault) = Some (string_bytes path)
log_of fault = None

abbrev pub line_of : CommandFault → Option ℕ
line_of (OfLog path (BadLine number fault)) = Some number
line_of fault = None

-- what is wrong there
abbrev pub text_of : CommandFault → Option (List ℕ)
text_of (OfLog path fault) = log.fault_text fault
text_of fault = fault_text fault

-- what to do about the fault of a log, where there is something
abbrev pub log_advice : LogFault → Option (List ℕ)
log_advice (BadLine number fault) =
    Some (codes "give the log as it was written, or name by --from the engine that wrote it")
log_advice NoDialect = Some (codes "name the dialect, as --exact plain")
log_advice fault = None

abbrev pub advice_of : CommandFault → Option (List ℕ)
advice_of (OfLog path fault) = log_advice fault
advice_of fault = None

-- a fault as an object of JSON, in a line: it has the fault's words, where these are known
pub record IsObject (fault : CommandFault) (line : List ℕ) : Type 0 where
  pub text : List ℕ
  pub is_said : IfSome (text_of fault) (λ said. text ≡ said)
  pub is_so : line ≡ fault_line (log_of fault) (line_of fault) text (advice_of fault)

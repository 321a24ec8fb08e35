use Rattle.std.proofs.Common.{◌≡◌, ◌++◌, drop}
use Rattle.message_log.specs.Line.{logged}
use Rattle.message_log.proofs.line.append_logged.Given as goal

abbrev pub invariant-loop-byte : goal.invariant-loop-byte
invariant-loop-byte l = l.initial.line.items ++ logged l.message ≡ l.line.items ++ logged (drop l.byte-index l.message)

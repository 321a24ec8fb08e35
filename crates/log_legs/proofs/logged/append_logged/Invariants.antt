use Rattle.std.proofs.Common.{◌≡◌, ◌++◌, drop}
use Rattle.message_log.specs.Line.{logged}
use Rattle.log_legs.proofs.logged.append_logged.Given as goal

abbrev pub invariant-loop-byte : goal.invariant-loop-byte
invariant-loop-byte l = l.initial.text.items ++ logged l.bytes ≡ l.text.items ++ logged (drop l.byte-index l.bytes)

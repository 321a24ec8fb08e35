use Rattle.std.proofs.Common.{◌≡◌, drop}
use Rattle.journal_record.specs.Record.{sum_after}
use Rattle.journal_record.proofs.sum.sum_after.Given as goal

abbrev pub invariant-loop-byte : goal.invariant-loop-byte
invariant-loop-byte l = sum_after l.fn.sum l.line ≡ sum_after l.now (drop l.byte-index l.line)

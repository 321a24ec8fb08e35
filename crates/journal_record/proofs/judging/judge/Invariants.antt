use Rattle.std.proofs.Common.{ℕ, List, length}
use Rattle.journal_record.proofs.ReadTo.{IsReadTo}
use Rattle.journal_record.proofs.judging.judge.Given as goal

abbrev pub invariant-loop-reader : goal.invariant-loop-reader
invariant-loop-reader l = (lines : List (List ℕ)) × IsReadTo l.text l.reader lines

abbrev pub decreases-loop-reader : goal.decreases-loop-reader
decreases-loop-reader l = length l.reader.rest

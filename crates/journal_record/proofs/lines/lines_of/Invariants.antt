use Rattle.std.proofs.Common.{length, map}
use Rattle.journal_record.proofs.ReadTo.{IsReadTo}
use Rattle.journal_record.proofs.lines.lines_of.Given as goal

abbrev pub invariant-loop-line : goal.invariant-loop-line
invariant-loop-line l = IsReadTo l.text l.reader (map (λ line. line.items) l.lines.items)

abbrev pub decreases-loop-line : goal.decreases-loop-line
decreases-loop-line l = length l.reader.rest

use Rattle.std.proofs.Common.{map, sym, subst}
use Rattle.journal_record.proofs.ReadTo.{IsReadTo, read_more, read_on}
use Rattle.journal_record.proofs.lines.lines_of.Goals as goal

pub loop-line-smaller : goal.loop-line-smaller
loop-line-smaller c =
    let next = rw c.in-Ok-Some.field-0-is at c.in-Ok-Some.ensures in
    read_on c.loop-line.reader c.next.new.self c.in-Ok-Some.line.now next

pub loop-line-preserved : goal.loop-line-preserved
loop-line-preserved c =
    let next = rw c.in-Ok-Some.field-0-is at c.in-Ok-Some.ensures in
    subst (IsReadTo c.args.text.now c.next.new.self) (sym c.in_ok-push_line-in-Ok-Some.ensures)
    (read_more c.args.text.now c.loop-line.reader c.next.new.self (map (λ line. line.items) c.loop-line.lines.items)
    c.in-Ok-Some.line.now c.loop-line.invariant next)

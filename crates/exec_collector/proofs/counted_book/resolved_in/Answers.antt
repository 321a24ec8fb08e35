use Rattle.std.proofs.Common.{suc, ap, sym, ◌∙◌, arith}
use Rattle.share_ledger.specs.Book.{venue_resolved}
use Rattle.exec_collector.proofs.Bounded.{few_below}
use Rattle.exec_collector.proofs.Counts.{venue_is}
use Rattle.exec_collector.proofs.counted_book.resolved_in.Goals as goal

pub overflow_add-shares : goal.overflow_add-shares
overflow_add-shares c =
    let number = c.loop-number.number in
    let few = few_below c.args.book.now c.requires.replays (suc number) in
    let so_far = c.loop-number.invariant in
    let more = c.venue_resolved-shares.ensures in
    let which = ap (venue_resolved c.args.book.now) (venue_is number c.in-Ok.venue (sym c.new.ensures ∙ c.in-Ok.is)) in
    omega (arith, few, so_far, more, which)

pub returns-clause-few : goal.returns-clause-few
returns-clause-few c =
    let few = few_below c.args.book.now c.requires.replays c.loop-number.number in
    let so_far = c.loop-number.invariant in
    omega (arith, few, so_far)

use Rattle.std.proofs.Common.{◌+◌, ◌≤◌, length, sym, ap, ◌∙◌, arith}
use Rattle.session_worker.proofs.Shares.{few_first, totals_some, totals_none, totals_all}
use Rattle.session_worker.proofs.open_shares.open_shares.Goals as goal

pub overflow_add-shares : goal.overflow_add-shares
overflow_add-shares c =
    let sweep = c.loop-sweep.sweep in
    let more = totals_some c.args.book.now sweep c.in-Some.totals (sym c.totals.ensures ∙ c.in-Some.is) in
    let few = few_first c.args.book.now c.requires (sweep + 1) in
    let so_far = c.loop-sweep.invariant in
    omega (arith, more, few, so_far)

pub loop-sweep-preserved : goal.loop-sweep-preserved
loop-sweep-preserved c =
    let sweep = c.loop-sweep.sweep in
    let more = totals_some c.args.book.now sweep c.in-Some.totals (sym c.totals.ensures ∙ c.in-Some.is) in
    ap (λ n. n + c.in-Some.totals.still_open) c.loop-sweep.invariant ∙ sym more

pub returns-in-None : goal.returns-in-None
returns-in-None c =
    c.loop-sweep.invariant ∙ totals_none c.args.book.now c.loop-sweep.sweep (sym c.totals.ensures ∙ c.in-None.is)

pub returns : goal.returns
returns c =
    let all = ap length c.history-sweep-end.ensures in
    let few : length c.args.book.now.entries ≤ c.loop-sweep.sweep = omega (arith, all) in
    c.loop-sweep.invariant ∙ totals_all c.args.book.now c.loop-sweep.sweep few

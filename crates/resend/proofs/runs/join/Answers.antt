use Rattle.std.proofs.Common.{◌+◌, sym, ◌∙◌, add-one, arith}
use Rattle.resend.proofs.Joining.{joined_at_end, joined_at_stays, joined_at_joins, sum_ends}
use Rattle.resend.proofs.runs.join.Goals as goal

pub returns-then-behind-len-clause-items : goal.returns-then-behind-len-clause-items
returns-then-behind-len-clause-items c =
    joined_at_end c.args.place c.args.runs.now.items (omega (arith, c.if-behind-len.true, c.len.ensures, c.args.runs.now.ok.0))

pub overflow_add-run : goal.overflow_add-run
overflow_add-run c =
    let sum = sum_ends c.args.place (c.args.place + 1) 18446744073709551615 c.args.runs.now.items c.index-run.result.now c.index-next.result.now (add-one c.args.place)
    (omega (arith, c.requires.within, c.if-behind-len.false, c.len.ensures, c.args.runs.now.ok.0)) c.index-run.ensures c.index-next.ensures (sym c.continues.ensures ∙ c.if-continues.true) c.requires.end in
    omega (arith, sum)

pub returns-then-continues-clause-items : goal.returns-then-continues-clause-items
returns-then-continues-clause-items c =
    c.remove.ensures.items ∙ joined_at_joins c.args.place (c.args.place + 1) c.args.runs.now.items c.index-run.result.now c.index-next.result.now (add-one c.args.place)
    (omega (arith, c.requires.within, c.if-behind-len.false, c.len.ensures, c.args.runs.now.ok.0)) c.index-run.ensures c.index-next.ensures (sym c.continues.ensures ∙ c.if-continues.true)

pub returns-else-continues-clause-items : goal.returns-else-continues-clause-items
returns-else-continues-clause-items c =
    joined_at_stays c.args.place (c.args.place + 1) c.args.runs.now.items c.index-run.result.now c.index-next.result.now (add-one c.args.place)
    (omega (arith, c.requires.within, c.if-behind-len.false, c.len.ensures, c.args.runs.now.ok.0)) c.index-run.ensures c.index-next.ensures (sym c.continues.ensures ∙ c.if-continues.false)

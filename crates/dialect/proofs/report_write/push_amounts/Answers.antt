use Rattle.fix_text.proofs.Sinks.{grows_on, pushes_on, pushes_none}
use Rattle.dialect.proofs.report_write.push_amounts.Goals as goal

pub returns-in_err-push_fill-clause-pushed : goal.returns-in_err-push_fill-clause-pushed
returns-in_err-push_fill-clause-pushed g c =
    let Takes = g.F.FieldSink.Takes in
    let more = g.met.F.FieldSink.takes_more in
    pushes_none Takes _ _ _ _ c.from_residual-in_err-push_fill.result c.from_residual-in_err-push_fill.ensures.1
    (grows_on Takes more _ _ _ _ c.in_ok-push_short.ensures.pushed c.in_err-push_fill.ensures.pushed)

pub returns-in_err-push_number-clause-pushed : goal.returns-in_err-push_number-clause-pushed
returns-in_err-push_number-clause-pushed g c =
    let Takes = g.F.FieldSink.Takes in
    let more = g.met.F.FieldSink.takes_more in
    pushes_none Takes _ _ _ _ c.from_residual-in_err-push_number.result c.from_residual-in_err-push_number.ensures.1
    (grows_on Takes more _ _ _ _ c.in_ok-push_short.ensures.pushed (grows_on Takes more _ _ _ _ c.in_ok-push_fill.ensures.pushed c.in_err-push_number.ensures.pushed))

pub returns-in_err-push_number-2-clause-pushed : goal.returns-in_err-push_number-2-clause-pushed
returns-in_err-push_number-2-clause-pushed g c =
    let Takes = g.F.FieldSink.Takes in
    let more = g.met.F.FieldSink.takes_more in
    pushes_none Takes _ _ _ _ c.from_residual-in_err-push_number-2.result c.from_residual-in_err-push_number-2.ensures.1
    (grows_on Takes more _ _ _ _ c.in_ok-push_short.ensures.pushed (grows_on Takes more _ _ _ _ c.in_ok-push_fill.ensures.pushed (grows_on Takes more _ _ _ _ c.in_ok-push_number.ensures.pushed c.in_err-push_number-2.ensures.pushed)))

pub returns-clause-pushed : goal.returns-clause-pushed
returns-clause-pushed g c =
    let Takes = g.F.FieldSink.Takes in
    let more = g.met.F.FieldSink.takes_more in
    let last = c.push_short-2.result in
    let field_1 = rw (c.side_text.ensures.value, c.side.ensures.value, c.leg.ensures.value) at c.in_ok-push_short.ensures.pushed in
    let field_3 = rw c.leaves.ensures.value at c.in_ok-push_number.ensures.pushed in
    let field_4 = rw c.cum.ensures.value at c.in_ok-push_number-2.ensures.pushed in
    pushes_on Takes more _ _ _ _ _ last field_1
    (pushes_on Takes more _ _ _ _ _ last c.in_ok-push_fill.ensures.pushed
    (pushes_on Takes more _ _ _ _ _ last field_3
    (pushes_on Takes more _ _ _ _ _ last field_4
    c.push_short-2.ensures.pushed)))

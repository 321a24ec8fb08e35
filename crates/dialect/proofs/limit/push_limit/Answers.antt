use Rattle.fix_text.proofs.Sinks.{grows_on, pushes_on, pushes_none}
use Rattle.dialect.proofs.limit.push_limit.Goals as goal

pub returns-in_err-push_short-clause-pushed : goal.returns-in_err-push_short-clause-pushed
returns-in_err-push_short-clause-pushed g c =
    let Takes = g.F.FieldSink.Takes in
    let more = g.met.F.FieldSink.takes_more in
    pushes_none Takes _ _ _ _ c.from_residual-in_err-push_short.result c.from_residual-in_err-push_short.ensures.1
    (grows_on Takes more _ _ _ _ c.in_ok-push_number.ensures.pushed c.in_err-push_short.ensures.pushed)

pub returns-in_err-push_short-2-clause-pushed : goal.returns-in_err-push_short-2-clause-pushed
returns-in_err-push_short-2-clause-pushed g c =
    let Takes = g.F.FieldSink.Takes in
    let more = g.met.F.FieldSink.takes_more in
    pushes_none Takes _ _ _ _ c.from_residual-in_err-push_short-2.result c.from_residual-in_err-push_short-2.ensures.1
    (grows_on Takes more _ _ _ _ c.in_ok-push_number.ensures.pushed (grows_on Takes more _ _ _ _ c.in_ok-push_short.ensures.pushed c.in_err-push_short-2.ensures.pushed))

pub returns-clause-pushed : goal.returns-clause-pushed
returns-clause-pushed g c =
    let Takes = g.F.FieldSink.Takes in
    let more = g.met.F.FieldSink.takes_more in
    let last = c.push_short-3.result in
    let field_1 = rw c.shares.ensures.value at c.in_ok-push_number.ensures.pushed in
    let field_3 = rw (c.as_slice.ensures.value, c.price_text.ensures.value, c.price.ensures.value) at c.in_ok-push_short-2.ensures.pushed in
    pushes_on Takes more _ _ _ _ _ last field_1
    (pushes_on Takes more _ _ _ _ _ last c.in_ok-push_short.ensures.pushed
    (pushes_on Takes more _ _ _ _ _ last field_3
    (rw (c.side_text.ensures.value, c.side.ensures.value) at c.push_short-3.ensures.pushed)))

use Rattle.fix_text.proofs.Sinks.{grows_on, pushes_on, pushes_none}
use Rattle.dialect.proofs.order.push_order.Goals as goal

pub returns-in_err-push_short-2-clause-pushed : goal.returns-in_err-push_short-2-clause-pushed
returns-in_err-push_short-2-clause-pushed g c =
    let Takes = g.F.FieldSink.Takes in
    let more = g.met.F.FieldSink.takes_more in
    pushes_none Takes _ _ _ _ c.from_residual-in_err-push_short-2.result c.from_residual-in_err-push_short-2.ensures.1
    (grows_on Takes more _ _ _ _ c.in_ok-push_short.ensures.pushed c.in_err-push_short-2.ensures.pushed)

pub returns-in_err-push_limit-clause-pushed : goal.returns-in_err-push_limit-clause-pushed
returns-in_err-push_limit-clause-pushed g c =
    let Takes = g.F.FieldSink.Takes in
    let more = g.met.F.FieldSink.takes_more in
    pushes_none Takes _ _ _ _ c.from_residual-in_err-push_limit.result c.from_residual-in_err-push_limit.ensures.1
    (grows_on Takes more _ _ _ _ c.in_ok-push_short.ensures.pushed (grows_on Takes more _ _ _ _ c.in_ok-push_short-2.ensures.pushed c.in_err-push_limit.ensures.pushed))

pub returns-in_err-push_symbol-clause-pushed : goal.returns-in_err-push_symbol-clause-pushed
returns-in_err-push_symbol-clause-pushed g c =
    let Takes = g.F.FieldSink.Takes in
    let more = g.met.F.FieldSink.takes_more in
    pushes_none Takes _ _ _ _ c.from_residual-in_err-push_symbol.result c.from_residual-in_err-push_symbol.ensures.1
    (grows_on Takes more _ _ _ _ c.in_ok-push_short.ensures.pushed (grows_on Takes more _ _ _ _ c.in_ok-push_short-2.ensures.pushed (grows_on Takes more _ _ _ _ c.in_ok-push_limit.ensures.pushed c.in_err-push_symbol.ensures.pushed)))

pub returns-in_err-push_immediate-clause-pushed : goal.returns-in_err-push_immediate-clause-pushed
returns-in_err-push_immediate-clause-pushed g c =
    let Takes = g.F.FieldSink.Takes in
    let more = g.met.F.FieldSink.takes_more in
    pushes_none Takes _ _ _ _ c.from_residual-in_err-push_immediate.result c.from_residual-in_err-push_immediate.ensures.1
    (grows_on Takes more _ _ _ _ c.in_ok-push_short.ensures.pushed (grows_on Takes more _ _ _ _ c.in_ok-push_short-2.ensures.pushed (grows_on Takes more _ _ _ _ c.in_ok-push_limit.ensures.pushed (grows_on Takes more _ _ _ _ c.in_ok-push_symbol.ensures.pushed c.in_err-push_immediate.ensures.pushed))))

pub returns-clause-pushed : goal.returns-clause-pushed
returns-clause-pushed g c =
    let Takes = g.F.FieldSink.Takes in
    let more = g.met.F.FieldSink.takes_more in
    let last = c.push_extra.result in
    let field_1 = rw (c.as_slice.ensures.value, c.id_text.ensures.value) at c.in_ok-push_short.ensures.pushed in
    let field_2 = rw (c.tag.ensures, c.value.ensures, c.mark-mark.ensures.value) at c.in_ok-push_short-2.ensures.pushed in
    let field_4 = rw c.symbol.ensures.value at c.in_ok-push_symbol.ensures.pushed in
    pushes_on Takes more _ _ _ _ _ last field_1
    (pushes_on Takes more _ _ _ _ _ last field_2
    (pushes_on Takes more _ _ _ _ _ last c.in_ok-push_limit.ensures.pushed
    (pushes_on Takes more _ _ _ _ _ last field_4
    (pushes_on Takes more _ _ _ _ _ last c.in_ok-push_immediate.ensures.pushed
    c.push_extra.ensures.pushed))))

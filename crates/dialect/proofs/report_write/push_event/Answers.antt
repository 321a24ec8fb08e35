use Rattle.fix_text.proofs.Sinks.{grows_on, pushes_on, pushes_none}
use Rattle.dialect.proofs.report_write.push_event.Goals as goal

pub returns-in_err-push_field-2-clause-pushed : goal.returns-in_err-push_field-2-clause-pushed
returns-in_err-push_field-2-clause-pushed g c =
    let Takes = g.F.FieldSink.Takes in
    let more = g.met.F.FieldSink.takes_more in
    pushes_none Takes _ _ _ _ c.from_residual-in_err-push_field-2.result c.from_residual-in_err-push_field-2.ensures.1
    (grows_on Takes more _ _ _ _ c.in_ok-push_field.ensures.pushed c.in_err-push_field-2.ensures.pushed)

pub returns-in_err-push_cancelled-clause-pushed : goal.returns-in_err-push_cancelled-clause-pushed
returns-in_err-push_cancelled-clause-pushed g c =
    let Takes = g.F.FieldSink.Takes in
    let more = g.met.F.FieldSink.takes_more in
    pushes_none Takes _ _ _ _ c.from_residual-in_err-push_cancelled.result c.from_residual-in_err-push_cancelled.ensures.1
    (grows_on Takes more _ _ _ _ c.in_ok-push_field.ensures.pushed (grows_on Takes more _ _ _ _ c.in_ok-push_field-2.ensures.pushed c.in_err-push_cancelled.ensures.pushed))

pub returns-in_err-push_short-clause-pushed : goal.returns-in_err-push_short-clause-pushed
returns-in_err-push_short-clause-pushed g c =
    let Takes = g.F.FieldSink.Takes in
    let more = g.met.F.FieldSink.takes_more in
    pushes_none Takes _ _ _ _ c.from_residual-in_err-push_short.result c.from_residual-in_err-push_short.ensures.1
    (grows_on Takes more _ _ _ _ c.in_ok-push_field.ensures.pushed (grows_on Takes more _ _ _ _ c.in_ok-push_field-2.ensures.pushed (grows_on Takes more _ _ _ _ c.in_ok-push_cancelled.ensures.pushed c.in_err-push_short.ensures.pushed)))

pub returns-in_err-push_short-2-clause-pushed : goal.returns-in_err-push_short-2-clause-pushed
returns-in_err-push_short-2-clause-pushed g c =
    let Takes = g.F.FieldSink.Takes in
    let more = g.met.F.FieldSink.takes_more in
    pushes_none Takes _ _ _ _ c.from_residual-in_err-push_short-2.result c.from_residual-in_err-push_short-2.ensures.1
    (grows_on Takes more _ _ _ _ c.in_ok-push_field.ensures.pushed (grows_on Takes more _ _ _ _ c.in_ok-push_field-2.ensures.pushed (grows_on Takes more _ _ _ _ c.in_ok-push_cancelled.ensures.pushed (grows_on Takes more _ _ _ _ c.in_ok-push_short.ensures.pushed c.in_err-push_short-2.ensures.pushed))))

pub returns-clause-pushed : goal.returns-clause-pushed
returns-clause-pushed g c =
    let Takes = g.F.FieldSink.Takes in
    let more = g.met.F.FieldSink.takes_more in
    let last = c.push_short-3.result in
    let field_1 = rw (c.as_bytes.ensures.value, c.order_id.ensures.value) at c.in_ok-push_field.ensures.pushed in
    let field_2 = rw c.as_bytes-2.ensures.value at c.in_ok-push_field-2.ensures.pushed in
    let field_4 = rw c.exec_type_text.ensures at c.in_ok-push_short.ensures.pushed in
    let field_5 = rw (c.ord_status_text.ensures, c.leaves.ensures.value) at c.in_ok-push_short-2.ensures.pushed in
    pushes_on Takes more _ _ _ _ _ last field_1
    (pushes_on Takes more _ _ _ _ _ last field_2
    (pushes_on Takes more _ _ _ _ _ last c.in_ok-push_cancelled.ensures.pushed
    (pushes_on Takes more _ _ _ _ _ last field_4
    (pushes_on Takes more _ _ _ _ _ last field_5
    (rw (c.as_slice.ensures.value, c.id_text.ensures.value) at c.push_short-3.ensures.pushed)))))

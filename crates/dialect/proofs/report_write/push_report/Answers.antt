use Rattle.fix_text.proofs.Sinks.{grows_on, pushes_on, pushes_none}
use Rattle.dialect.proofs.report_write.push_report.Goals as goal

pub returns-in_err-push_symbol-clause-pushed : goal.returns-in_err-push_symbol-clause-pushed
returns-in_err-push_symbol-clause-pushed g c =
    let Takes = g.F.FieldSink.Takes in
    let more = g.met.F.FieldSink.takes_more in
    pushes_none Takes _ _ _ _ c.from_residual-in_err-push_symbol.result c.from_residual-in_err-push_symbol.ensures.1
    (grows_on Takes more _ _ _ _ c.in_ok-push_event.ensures.pushed c.in_err-push_symbol.ensures.pushed)

pub returns-clause-pushed : goal.returns-clause-pushed
returns-clause-pushed g c =
    let Takes = g.F.FieldSink.Takes in
    let more = g.met.F.FieldSink.takes_more in
    let last = c.push_amounts.result in
    let field_2 = rw (c.symbol.ensures.value, c.leg.ensures.value) at c.in_ok-push_symbol.ensures.pushed in
    pushes_on Takes more _ _ _ _ _ last (more _ _ _ _ _ c.in_ok-push_event.ensures.pushed field_2) c.push_amounts.ensures.pushed

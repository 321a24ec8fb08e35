use Rattle.fix_text.proofs.Sinks.{pushes_on}
use Rattle.dialect.proofs.report_write.push_fill.Goals as goal

pub returns-in_ok-push_number-in-Trade-clause-pushed : goal.returns-in_ok-push_number-in-Trade-clause-pushed
returns-in_ok-push_number-in-Trade-clause-pushed g c =
    let Takes = g.F.FieldSink.Takes in
    let more = g.met.F.FieldSink.takes_more in
    let last = c.push_short.result in
    let shares = rw c.shares.ensures.value at c.in_ok-push_number-in-Trade.ensures.pushed in
    let px = rw (c.as_bytes.ensures.value, c.px.ensures.value) at c.push_short.ensures.pushed in
    rw c.in-Trade.is (pushes_on Takes more _ _ _ _ _ last shares px)

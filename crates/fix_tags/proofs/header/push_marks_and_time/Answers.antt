use Rattle.fix_text.proofs.Sinks.{grows_on, pushes_on, pushes_none}
use Rattle.fix_tags.proofs.header.push_marks_and_time.Goals as goal

pub returns-in_err-push_flag-2-clause-pushed : goal.returns-in_err-push_flag-2-clause-pushed
returns-in_err-push_flag-2-clause-pushed g c =
    let Takes = g.F.FieldSink.Takes in
    let more = g.met.F.FieldSink.takes_more in
    pushes_none Takes _ _ _ _ c.from_residual-in_err-push_flag-2.result c.from_residual-in_err-push_flag-2.ensures.1
    (grows_on Takes more _ _ _ _ c.in_ok-push_flag.ensures.pushed c.in_err-push_flag-2.ensures.pushed)

pub returns-in_err-push_field-clause-pushed : goal.returns-in_err-push_field-clause-pushed
returns-in_err-push_field-clause-pushed g c =
    let Takes = g.F.FieldSink.Takes in
    let more = g.met.F.FieldSink.takes_more in
    pushes_none Takes _ _ _ _ c.from_residual-in_err-push_field.result c.from_residual-in_err-push_field.ensures.1
    (grows_on Takes more _ _ _ _ c.in_ok-push_flag.ensures.pushed
    (grows_on Takes more _ _ _ _ c.in_ok-push_flag-2.ensures.pushed c.in_err-push_field.ensures.pushed))

pub returns-clause-pushed : goal.returns-clause-pushed
returns-clause-pushed g c =
    let Takes = g.F.FieldSink.Takes in
    let more = g.met.F.FieldSink.takes_more in
    let last = c.push_original_time.result in
    let flags = more _ _ _ _ _ c.in_ok-push_flag.ensures.pushed c.in_ok-push_flag-2.ensures.pushed in
    pushes_on Takes more _ _ _ _ _ last flags
    (pushes_on Takes more _ _ _ _ _ last c.in_ok-push_field.ensures.pushed c.push_original_time.ensures.pushed)

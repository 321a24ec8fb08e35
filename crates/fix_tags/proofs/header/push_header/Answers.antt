use Rattle.std.proofs.Common.{List, ℕ, ◌∷◌, [], subst, ◌∙◌}
use Rattle.fix_text.proofs.Sinks.{grows_on, pushes_on, pushes_none}
use Rattle.fix_tags.specs.Message.{field}
use Rattle.fix_tags.proofs.header.push_header.Goals as goal

pub returns-in_err-push_field-2-clause-pushed : goal.returns-in_err-push_field-2-clause-pushed
returns-in_err-push_field-2-clause-pushed g c =
    let Takes = g.F.FieldSink.Takes in
    let more = g.met.F.FieldSink.takes_more in
    pushes_none Takes _ _ _ _ c.from_residual-in_err-push_field-2.result c.from_residual-in_err-push_field-2.ensures.1
    (grows_on Takes more _ _ _ _ c.in_ok-push_field.ensures.pushed c.in_err-push_field-2.ensures.pushed)

pub returns-in_err-push_field-3-clause-pushed : goal.returns-in_err-push_field-3-clause-pushed
returns-in_err-push_field-3-clause-pushed g c =
    let Takes = g.F.FieldSink.Takes in
    let more = g.met.F.FieldSink.takes_more in
    pushes_none Takes _ _ _ _ c.from_residual-in_err-push_field-3.result c.from_residual-in_err-push_field-3.ensures.1
    (grows_on Takes more _ _ _ _ c.in_ok-push_field.ensures.pushed
    (grows_on Takes more _ _ _ _ c.in_ok-push_field-2.ensures.pushed c.in_err-push_field-3.ensures.pushed))

pub returns-in_err-push_field-4-clause-pushed : goal.returns-in_err-push_field-4-clause-pushed
returns-in_err-push_field-4-clause-pushed g c =
    let Takes = g.F.FieldSink.Takes in
    let more = g.met.F.FieldSink.takes_more in
    pushes_none Takes _ _ _ _ c.from_residual-in_err-push_field-4.result c.from_residual-in_err-push_field-4.ensures.1
    (grows_on Takes more _ _ _ _ c.in_ok-push_field.ensures.pushed
    (grows_on Takes more _ _ _ _ c.in_ok-push_field-2.ensures.pushed
    (grows_on Takes more _ _ _ _ c.in_ok-push_field-3.ensures.pushed c.in_err-push_field-4.ensures.pushed)))

pub returns-clause-pushed : goal.returns-clause-pushed
returns-clause-pushed g c =
    let Takes = g.F.FieldSink.Takes in
    let more = g.met.F.FieldSink.takes_more in
    let last = c.push_marks_and_time.result in
    let number = subst (λ (digits : List ℕ). Takes c.push_field-3.new.self c.push_field-4.new.self (field 34 digits ∷ []))
    (c.as_bytes.ensures.value ∙ c.format.ensures.text) c.in_ok-push_field-4.ensures.pushed in
    pushes_on Takes more _ _ _ _ _ last c.in_ok-push_field.ensures.pushed
    (pushes_on Takes more _ _ _ _ _ last c.in_ok-push_field-2.ensures.pushed
    (pushes_on Takes more _ _ _ _ _ last c.in_ok-push_field-3.ensures.pushed
    (pushes_on Takes more _ _ _ _ _ last number c.push_marks_and_time.ensures.pushed)))

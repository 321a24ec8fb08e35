use Rattle.std.proofs.Common.{◌≡◌, false, sym, ap, ◌∙◌, arith, drop}
use Rattle.std.specs.Prelude.{◌||◌, is_err}
use Rattle.std.proofs.Math.Bool.{or-true, or-false}
use Rattle.std.proofs.lemmas.List.{length-drop}
use Rattle.fix_text.specs.Text.{holds_soh}
use Rattle.fix_text.specs.Reading.{fields_of}
use Rattle.fix_text.proofs.FieldLists.{fields_of-none, not_fields, all_read, nothing_read}
use Rattle.fix_text.proofs.Placed.{place_read, some_read, within_more, no_fields, more_than_room, more_if_some, on_is_err}
use Rattle.fix_text.proofs.Parts.{first_part, no_part}
use Rattle.fix_text.proofs.fields.place_fields.Goals.{then-is_err, else-is_err}
use Rattle.fix_text.proofs.fields.place_fields.Goals as goal

pub place_of-requires-clause-ordered : goal.place_of-requires-clause-ordered
place_of-requires-clause-ordered c =
    let loop = c.loop-end.invariant in
    (first_part c.args.text.now c.loop-end.at c.in-Some.end _ loop.within (loop.left ∙ c.in-Some.ensures.steps)).0.ordered

pub place_of-requires-clause-within : goal.place_of-requires-clause-within
place_of-requires-clause-within c =
    let loop = c.loop-end.invariant in
    let part = first_part c.args.text.now c.loop-end.at c.in-Some.end _ loop.within (loop.left ∙ c.in-Some.ensures.steps) in
    omega (arith, part.0.within)

pub place_of-requires-clause-part : goal.place_of-requires-clause-part
place_of-requires-clause-part c =
    let loop = c.loop-end.invariant in
    (first_part c.args.text.now c.loop-end.at c.in-Some.end _ loop.within (loop.left ∙ c.in-Some.ensures.steps)).0.whole

pub overflow_add-at : goal.overflow_add-at
overflow_add-at c =
    let loop = c.loop-end.invariant in
    let part = first_part c.args.text.now c.loop-end.at c.in-Some.end _ loop.within (loop.left ∙ c.in-Some.ensures.steps) in
    omega (arith, part.0.within)

pub returns-in_default-clause-placed : goal.returns-in_default-clause-placed
returns-in_default-clause-placed c =
    let text = c.args.text.now in
    let loop = c.loop-end.invariant in
    let part = (first_part text c.loop-end.at c.in-Some.end _ loop.within (loop.left ∙ c.in-Some.ensures.steps)).0 in
    no_fields _ (fields_of text) (not_fields _ _ _ part.parted part.whole c.in_default.ensures.field) loop.some

pub loop-end-preserved : goal.loop-end-preserved
loop-end-preserved c =
    let text = c.args.text.now in
    let at = c.loop-end.at in
    let end = c.in-Some.end in
    let loop = c.loop-end.invariant in
    let place = c.in-Some-place_of.place in
    let found = first_part text at end _ loop.within (loop.left ∙ c.in-Some.ensures.steps) in
    let is = c.in-Some-place_of.ensures.field in
    let full : c.if-is_err.is_full ≡ (c.loop-end.is_full || is_err c.push.result) = elim c.if-is_err.branch [
      | then-is_err w ↦ w.is_full-is ∙ sym (ap (λ b. c.loop-end.is_full || b) (sym c.is_err.ensures.value ∙ w.if-is_err.true) ∙ or-true c.loop-end.is_full)
      | else-is_err w ↦ w.is_full-is ∙ sym (ap (λ b. c.loop-end.is_full || b) (sym c.is_err.ensures.value ∙ w.if-is_err.false) ∙ or-false c.loop-end.is_full)
    ] in
    rw (c.push.ensures.items, full) (record {
      within = omega (arith, found.0.within);
      room = omega (arith, loop.room, c.push.ensures.capacity);
      more = more_than_room c.push.result c.loop-end.is_full text c.loop-end.places.items at end _ place found.0 is (λ err. let none = on_is_err c.push.result _ c.push.ensures.full err in omega (arith, none, loop.room)) loop.more loop.read;
      left = sym found.1;
      each = within_more c.push.result text c.loop-end.places.items place c.in-Some-place_of.ensures.within loop.each;
      some = some_read text at end _ _ found.0 is loop.some;
      read = place_read c.push.result c.loop-end.is_full text c.loop-end.places.items at end place _ found.0 is loop.read;
    })

pub returns-then-at-text-clause-placed : goal.returns-then-at-text-clause-placed
returns-then-at-text-clause-placed c =
    let text = c.args.text.now in
    let left = drop c.loop-end.at text in
    let loop = c.loop-end.invariant in
    let none : holds_soh left ≡ false = no_part text c.loop-end.at loop.within (loop.left ∙ c.in-None.ensures.steps.0) in
    no_fields (fields_of left) (fields_of text) (fields_of-none left (omega (arith, length-drop c.loop-end.at text)) none) loop.some

pub returns-then-is_full-clause-full : goal.returns-then-is_full-clause-full
returns-then-is_full-clause-full c =
    let text = c.args.text.now in
    let left = drop c.loop-end.at text in
    let some = sym c.loop-end.invariant.some ∙ nothing_read left (omega (arith, length-drop c.loop-end.at text)) in
    more_if_some _ (fields_of text) some (c.loop-end.invariant.more c.if-is_full.true)

pub returns-clause-placed : goal.returns-clause-placed
returns-clause-placed c =
    let text = c.args.text.now in
    let left = drop c.loop-end.at text in
    (all_read _ left (fields_of text) (omega (arith, length-drop c.loop-end.at text)) (c.loop-end.invariant.read c.if-is_full.false), c.loop-end.invariant.each)

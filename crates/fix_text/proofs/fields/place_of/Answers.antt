use Rattle.std.proofs.Common.{ap, ◌∙◌, arith, length, List, ℕ, Some}
use Rattle.fix_text.proofs.Placed.{is_place, value_lies}
use Rattle.fix_text.proofs.fields.place_of.Goals as goal

pub overflow_sub-result : goal.overflow_sub-result
overflow_sub-result c =
    let lies = value_lies c.args.text.now c.args.at c.args.end _ c.requires.ordered c.requires.within c.in_ok-field.ensures in
    omega (arith, lies.0, ap length c.value.ensures)

pub returns-clause-field : goal.returns-clause-field
returns-clause-field c =
    let field = c.in_ok-field.field in
    let lies = value_lies c.args.text.now c.args.at c.args.end field c.requires.ordered c.requires.within c.in_ok-field.ensures in
    rw (c.tag.ensures, c.value.ensures) (ap (λ (value : List ℕ). Some record { tag = field.tag; value = value }) lies.1 ∙ c.in_ok-field.ensures)

pub returns-clause-within : goal.returns-clause-within
returns-clause-within c =
    rw (c.value.ensures)
    (is_place c.args.text.now c.args.at c.args.end c.tag.result c.in_ok-field.field c.requires.ordered c.requires.within c.requires.part c.in_ok-field.ensures)

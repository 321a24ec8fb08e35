use Rattle.std.proofs.Common.{◌≡◌, ◌<◌, true, length, get_or, refl, sym, ◌∙◌, arith}
use Rattle.std.specs.Char.{is_ascii_digit}
use Rattle.std.proofs.lemmas.Grind.{common_steps}
use Rattle.fix_tags.proofs.DigitsRead.{length-leading_digits, number_more, after_digits-more}
use Rattle.exact_price.proofs.reading.leading_number.Goals as goal

pub returns-then-not-is_ascii_digit-clause-digits : goal.returns-then-not-is_ascii_digit-clause-digits
returns-then-not-is_ascii_digit-clause-digits c = grind (arith, common_steps, length-leading_digits c.args.bytes.now)

pub loop-count-preserved : goal.loop-count-preserved
loop-count-preserved c =
    let text = c.args.bytes.now in
    let i = c.loop-count.count in
    let below : i < length text = omega arith in
    let digit : is_ascii_digit (get_or text i 0) ≡ true = cc in
    (omega arith, number_more _ c.loop-count.value c.min-value.result _ text i below refl digit (cc) ∙ c.loop-count.invariant.1, sym (after_digits-more text i below digit) ∙ c.loop-count.invariant.2)

pub returns-clause-digits : goal.returns-clause-digits
returns-clause-digits c = grind (arith, common_steps, length-leading_digits c.args.bytes.now)

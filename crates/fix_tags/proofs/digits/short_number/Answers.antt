use Rattle.std.proofs.Common.{◌≡◌, ◌<◌, true, length, take, get_or, arith}
use Rattle.std.specs.Char.{is_ascii_digit}
use Rattle.std.proofs.lemmas.Grind.{common_steps}
use Rattle.std.proofs.lemmas.List.{length-take-le}
use Rattle.fix_tags.proofs.DigitsRead.{digits_number-lt, digits_more}
use Rattle.fix_tags.proofs.digits.short_number.Goals as goal

pub overflow_mul-value : goal.overflow_mul-value
overflow_mul-value c =
    let so_far = digits_number-lt 3 (take c.loop-byte.byte-index c.args.bytes.now) c.loop-byte.invariant.1 (omega (arith, length-take-le c.loop-byte.byte-index c.args.bytes.now (omega arith))) in
    omega (arith, so_far)

pub overflow_add-value : goal.overflow_add-value
overflow_add-value c =
    let so_far = digits_number-lt 3 (take c.loop-byte.byte-index c.args.bytes.now) c.loop-byte.invariant.1 (omega (arith, length-take-le c.loop-byte.byte-index c.args.bytes.now (omega arith))) in
    omega (arith, so_far)

pub loop-byte-preserved : goal.loop-byte-preserved
loop-byte-preserved c =
    let text = c.args.bytes.now in
    let i = c.loop-byte.byte-index in
    let below : i < length text = omega arith in
    let digit : is_ascii_digit (get_or text i 0) ≡ true = cc in
    let more = digits_more text i below digit c.loop-byte.invariant.1 in
    (cc, more.1)

pub returns-clause-within : goal.returns-clause-within
returns-clause-within c = grind (arith, common_steps, digits_number-lt (length c.args.bytes.now) c.args.bytes.now)

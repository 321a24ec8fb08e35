use Rattle.std.proofs.Common.{◌≡◌, ◌<◌, true, false, ◌&&◌, ◌||◌, nat_lt, ◌==◌, length, get_or, sym, ◌∙◌, arith}
use Rattle.std.specs.Char.{is_ascii_digit}
use Rattle.std.proofs.lemmas.Bool.Decides.{nat_tests}
use Rattle.std.proofs.lemmas.List.{at_drop_all}
use Rattle.exact_price.specs.Exact.{fraction, are_decimals}
use Rattle.exact_price.proofs.Decimals.{fraction_read, fraction_refused, are_decimals-fails}
use Rattle.exact_price.proofs.reading.fraction_in.Goals as goal

pub returns-then-not-is_ascii_digit-clause-value : goal.returns-then-not-is_ascii_digit-clause-value
returns-then-not-is_ascii_digit-clause-value c =
    let ds = c.args.decimals.now in
    let i = c.loop-byte.byte-index in
    let below : i < length ds = omega arith in
    let no_decimal : (is_ascii_digit (get_or ds i 0) && (nat_lt 0 c.loop-byte.unit || (get_or ds i 0 == 48))) ≡ false = grind (arith, nat_tests) in
    fraction_refused 10_000_000 ds (sym c.loop-byte.invariant.2 ∙ are_decimals-fails c.loop-byte.unit ds i below no_decimal)

pub returns-clause-value : goal.returns-clause-value
returns-clause-value c =
    let ds = c.args.decimals.now in
    let i = c.loop-byte.byte-index in
    let passes : are_decimals 10_000_000 ds ≡ true = sym c.loop-byte.invariant.2 ∙ at_drop_all (are_decimals c.loop-byte.unit) ds i (omega arith) in
    fraction_read 10_000_000 _ ds passes (omega (arith, at_drop_all (fraction c.loop-byte.unit) ds i (omega arith)))

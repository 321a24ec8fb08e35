-- The text of a price is short, whatever 64-bit number the price is.
use Rattle.std.proofs.Common.{ℕ, ◌/◌, ◌%◌, ◌^◌, ◌<◌, ◌≤◌, List, length, arith, length-append}
use Rattle.std.proofs.lemmas.Fmt.{length-decimal-le}
use Rattle.fix_tags.proofs.Written.{length-point_and, length-without_last_zeros}
use Rattle.fix_tags.specs.Digits.{four_digits}
use Rattle.fix_tags.specs.Price.{price_short, price_four, without_last_zeros}

pub price_short-is_short : (price : ℕ) → price < 2 ^ 64 → length (price_short price) ≤ 24
unfolding price_short
price_short-is_short price fits =
    let decimals : List ℕ = without_last_zeros (four_digits (price % 10_000)) in
    let dollars = length-decimal-le 16 (price / 10_000) (omega arith) (omega arith) (omega arith) in
    simp length-append (omega (arith, dollars, length-point_and decimals, length-without_last_zeros (four_digits (price % 10_000))))

pub price_four-is_short : (price : ℕ) → price < 2 ^ 64 → length (price_four price) ≤ 24
unfolding price_four
price_four-is_short price fits =
    let dollars = length-decimal-le 16 (price / 10_000) (omega arith) (omega arith) (omega arith) in
    simp length-append (omega (arith, dollars))

pub price_four-is_long : (price : ℕ) → 5 ≤ length (price_four price)
unfolding price_four
price_four-is_long price = simp length-append (omega arith)

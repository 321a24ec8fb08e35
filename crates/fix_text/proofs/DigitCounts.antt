-- How many digits a number has, by its size.
use Rattle.std.proofs.Common.{◌≡◌, ℕ, ◌+◌, ◌/◌, ◌%◌, ◌^◌, ◌<◌, ◌≤◌, length, arith, ap, [], ◌∷◌}
use Rattle.std.specs.Fmt.{decimal}
use Rattle.std.proofs.lemmas.Fmt.{decimal_digit, decimal_step}
use Rattle.std.proofs.Math.ListN.{length-append}

-- one digit below 10
pub length-decimal_one : (n : ℕ) → n < 10 → length (decimal n) ≡ 1
length-decimal_one n small = ap length (decimal_digit n small)

-- from 10 on, one more digit than a tenth of it
pub length-decimal_more : (n k : ℕ) → 10 ≤ n → n < 2 ^ 64 → length (decimal (n / 10)) ≡ k → length (decimal n) ≡ k + 1
length-decimal_more n k large fits shorter =
    let e = ap length (decimal_step n large fits) in
    let l = length-append (decimal (n / 10)) ((48 + n % 10) ∷ []) in
    omega (arith, e, l, shorter)

pub length-decimal_two : (n : ℕ) → 10 ≤ n → n < 100 → length (decimal n) ≡ 2
length-decimal_two n low high = length-decimal_more n 1 low (omega arith) (length-decimal_one (n / 10) (omega arith))

pub length-decimal_three : (n : ℕ) → 100 ≤ n → n < 1000 → length (decimal n) ≡ 3
length-decimal_three n low high = length-decimal_more n 2 (omega arith) (omega arith) (length-decimal_two (n / 10) (omega arith) (omega arith))

pub length-decimal_four : (n : ℕ) → 1000 ≤ n → n < 10000 → length (decimal n) ≡ 4
length-decimal_four n low high = length-decimal_more n 3 (omega arith) (omega arith) (length-decimal_three (n / 10) (omega arith) (omega arith))

pub length-decimal_five : (n : ℕ) → 10000 ≤ n → n < 100000 → length (decimal n) ≡ 5
length-decimal_five n low high = length-decimal_more n 4 (omega arith) (omega arith) (length-decimal_four (n / 10) (omega arith) (omega arith))

pub length-decimal_six : (n : ℕ) → 100000 ≤ n → n < 1000000 → length (decimal n) ≡ 6
length-decimal_six n low high = length-decimal_more n 5 (omega arith) (omega arith) (length-decimal_five (n / 10) (omega arith) (omega arith))

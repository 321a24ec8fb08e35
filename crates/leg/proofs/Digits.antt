-- The decimal text of a number is made of digits alone.
use Rattle.std.proofs.Common.{ℕ, ◌<◌, ◌≤◌, ◌+◌, ◌^◌, ◌%◌, [], ◌∷◌, arith}
use Rattle.std.specs.Fmt.{decimal}
use Rattle.std.specs.List.{All}
use Rattle.std.proofs.lemmas.List.Elements.{All-nil, All-cons, All-append}
use Rattle.std.proofs.lemmas.Fmt.{decimal_by_steps}

-- a byte is a digit 0 to 9
pub record IsDigit (c : ℕ) : Type 0 where
  pub low : 48 ≤ c
  pub high : c ≤ 57

one_digit : (d : ℕ) → d < 10 → All IsDigit ((48 + d) ∷ [])
one_digit d small =
    All-cons IsDigit (48 + d) [] (record { low = omega arith; high = omega arith }) (All-nil IsDigit)

pub digits_of_decimal : (n : ℕ) → n < 2 ^ 64 → All IsDigit (decimal n)
digits_of_decimal n small =
    decimal_by_steps
    (λ _ text. All IsDigit text)
    one_digit
    (λ m text _ front. All-append IsDigit text ((48 + m % 10) ∷ []) front (one_digit (m % 10) (omega arith)))
    n
    small

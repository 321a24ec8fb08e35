-- Decimal digits of a field's value, as ASCII writes them: 48 is '0' and 57 is '9'.
use Rattle.std.specs.Prelude.{ℕ, ◌+◌, ◌/◌, ◌%◌, List, [], ◌∷◌, Bool, ◌&&◌, Option, Some, None, ◌==◌, nat_le, if◌then◌else◌}
use Rattle.std.specs.Char.{is_ascii_digit}
use Rattle.std.specs.List.{list_all}
pub use Rattle.fix_text.specs.Grammar.{digits_number}

-- the digits that a text begins with
abbrev pub leading_digits : List ℕ → List ℕ
leading_digits [] = []
leading_digits (c ∷ cs) = if is_ascii_digit c then c ∷ leading_digits cs else []

-- what follows the digits that a text begins with
abbrev pub after_digits : List ℕ → List ℕ
after_digits [] = []
after_digits (c ∷ cs) = if is_ascii_digit c then after_digits cs else c ∷ cs

-- each byte is a digit
abbrev pub all_digits : List ℕ → Bool
all_digits text = list_all is_ascii_digit text

-- the number that a text writes, where it is digits
abbrev pub number_in : List ℕ → Option ℕ
number_in text = if all_digits text then Some (digits_number text) else None

-- each byte is '0'
abbrev pub all_zeros : List ℕ → Bool
all_zeros text = list_all (λ c. c == 48) text

-- a number, where it is from the least to the greatest one
abbrev pub within : ℕ → ℕ → ℕ → Option ℕ
within least greatest n = if nat_le least n && nat_le n greatest then Some n else None

-- the digit of a number that counts units of this size, as 1, 10 or 100
abbrev pub digit_at : ℕ → ℕ → ℕ
digit_at unit n = 48 + n / unit % 10

-- a number in two digits
abbrev pub two_digits : ℕ → List ℕ
two_digits n = digit_at 10 n ∷ digit_at 1 n ∷ []

-- a number in three digits
abbrev pub three_digits : ℕ → List ℕ
three_digits n = digit_at 100 n ∷ two_digits n

-- a number in four digits
abbrev pub four_digits : ℕ → List ℕ
four_digits n = digit_at 1000 n ∷ three_digits n

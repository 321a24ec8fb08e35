-- Numbers of a fixed width in a base, in the digits 0 to 9 and a to f.
use Rattle.std.specs.Prelude.{ℕ, zero, suc, ◌+◌, ◌-◌, ◌*◌, ◌/◌, ◌%◌, ◌&&◌, ◌==◌, nat_le, nat_lt, List, [], ◌∷◌, ◌++◌, length, Option, Some, None, option_and_then, if◌then◌else◌}

-- the byte of a digit, as `0` of 0 and `c` of 12
abbrev pub digit : ℕ → ℕ
digit d = if nat_lt d 10 then 48 + d else 87 + d

-- the digit of a byte
abbrev pub digit_of : ℕ → Option ℕ
digit_of c =
    if nat_le 48 c && nat_le c 57 then Some (c - 48) else (if nat_le 97 c && nat_le c 102 then Some (c - 87) else None)

-- the digit of a byte in a base
abbrev pub digit_in : ℕ → ℕ → Option ℕ
digit_in base c = option_and_then (λ d. if nat_lt d base then Some d else None) (digit_of c)

-- what is written: the last digits of a number, this many, with zeros before them
abbrev pub digits : ℕ → ℕ → ℕ → List ℕ
digits base zero n = []
digits base (suc width) n = digits base width (n / base) ++ digit (n % base) ∷ []

-- the number of a text's digits, where they follow those of n
abbrev pub number_after : ℕ → ℕ → List ℕ → Option ℕ
number_after base n [] = Some n
number_after base n (c ∷ cs) = option_and_then (λ d. number_after base (n * base + d) cs) (digit_in base c)

-- a number, where it is at most the greatest one
abbrev pub up_to : ℕ → ℕ → Option ℕ
up_to greatest n = if nat_le n greatest then Some n else None

-- a number that counts from 1
abbrev pub from_one : ℕ → Option ℕ
from_one n = if nat_le 1 n then Some n else None

-- the number of a text's digits, where they follow those of n and it is at most the greatest one
abbrev pub number_up_to : ℕ → ℕ → ℕ → List ℕ → Option ℕ
number_up_to base greatest n text = option_and_then (up_to greatest) (number_after base n text)

-- what is read: a number from 1 to a greatest one, in exactly this many digits
unfoldable pub fixed_of : ℕ → ℕ → ℕ → List ℕ → Option ℕ
fixed_of base width greatest text =
    if length text == width then option_and_then from_one (number_up_to base greatest 0 text) else None

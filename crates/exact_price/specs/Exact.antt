-- A price exactly, in hundred-millionths (10^-8) of the currency's unit (FIX 4.4 Volume 1, data type Price).
use Rattle.std.specs.Prelude.{ℕ, ◌+◌, ◌-◌, ◌*◌, ◌/◌, Bool, true, ◌&&◌, ◌||◌, List, [], ◌∷◌, length, drop, Option, None, ◌==◌, nat_lt, if◌then◌else◌}
use Rattle.std.specs.Char.{is_ascii_digit}
use Rattle.fix_tags.specs.Digits.{leading_digits, after_digits, digits_number, within}
use Rattle.fix_tags.specs.Price.{is_point_or_end, decimals_of}

-- what decimals count, of which the first counts this unit, and each other a tenth of the one before
abbrev pub fraction : ℕ → List ℕ → ℕ
fraction unit [] = 0
fraction unit (c ∷ cs) = (c - 48) * unit + fraction (unit / 10) cs

-- whether each is a digit, and '0' where it counts nothing
abbrev pub are_decimals : ℕ → List ℕ → Bool
are_decimals unit [] = true
are_decimals unit (c ∷ cs) = is_ascii_digit c && (nat_lt 0 unit || (c == 48)) && are_decimals (unit / 10) cs

-- units, with or without a point and decimals, one digit at least, and only zeros past the eighth decimal
abbrev pub is_exact_text : List ℕ → Bool
is_exact_text text =
    nat_lt 0 (length (leading_digits text) + length (decimals_of text)) && is_point_or_end (after_digits text)
    && are_decimals 10_000_000 (decimals_of text)

-- the price that a text spells, where that is one below ten thousand million units
unfoldable pub exact_of : List ℕ → Option ℕ
exact_of text =
    if is_exact_text text
    then within 0 999_999_999_999_999_999
    (digits_number (leading_digits text) * 100_000_000 + fraction 10_000_000 (decimals_of text))
    else None

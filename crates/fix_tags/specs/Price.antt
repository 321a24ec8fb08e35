-- A price in ten-thousandths of a dollar (FIX 4.4 Volume 1, data type Price).
use Rattle.std.specs.Prelude.{ℕ, ◌+◌, ◌*◌, ◌/◌, ◌%◌, Bool, true, ◌&&◌, List, [], ◌∷◌, ◌++◌, length, take, drop, Option, None, decimal, ◌==◌, nat_lt, if◌then◌else◌}
use Rattle.fix_tags.specs.Digits.{leading_digits, after_digits, all_digits, all_zeros, digits_number, four_digits, within}

-- after the dollars nothing stands, or a point
abbrev pub is_point_or_end : List ℕ → Bool
is_point_or_end [] = true
is_point_or_end (c ∷ cs) = c == 46

-- the decimals: what follows the dollars and the point
abbrev pub decimals_of : List ℕ → List ℕ
decimals_of text = drop 1 (after_digits text)

-- dollars, with or without a point and decimals, one digit at least, and only zeros past the fourth decimal
abbrev pub is_price_text : List ℕ → Bool
is_price_text text =
    nat_lt 0 (length (leading_digits text) + length (decimals_of text)) && is_point_or_end (after_digits text)
    && all_digits (decimals_of text) && all_zeros (drop 4 (decimals_of text))

-- the first four decimals as a number, those that are left out being zeros
abbrev pub ten_thousandths : List ℕ → ℕ
ten_thousandths decimals = digits_number (take 4 (decimals ++ 48 ∷ 48 ∷ 48 ∷ 48 ∷ []))

-- what is read: a price text of 1 to 9,999,999,999 ten-thousandths
unfoldable pub price_of : List ℕ → Option ℕ
price_of text =
    if is_price_text text
    then within 1 9_999_999_999 (digits_number (leading_digits text) * 10_000 + ten_thousandths (decimals_of text))
    else None

-- digits without the zeros at their end
abbrev pub without_last_zeros : List ℕ → List ℕ
without_last_zeros [] = []
without_last_zeros (d ∷ ds) = if all_zeros (d ∷ ds) then [] else d ∷ without_last_zeros ds

-- a point and decimals, and nothing where there are none
abbrev pub point_and : List ℕ → List ℕ
point_and [] = []
point_and (d ∷ ds) = 46 ∷ d ∷ ds

-- what is written short: the dollars, and the decimals without the zeros at their end
unfoldable pub price_short : ℕ → List ℕ
price_short price = decimal (price / 10_000) ++ point_and (without_last_zeros (four_digits (price % 10_000)))

-- what is written in full: the dollars and always four decimals
unfoldable pub price_four : ℕ → List ℕ
price_four price = decimal (price / 10_000) ++ point_and (four_digits (price % 10_000))

-- A count of shares (FIX 4.4 Volume 1, data type Qty).
use Rattle.std.specs.Prelude.{ℕ, Bool, true, ◌&&◌, List, [], ◌∷◌, length, Option, None, ◌==◌, nat_lt, if◌then◌else◌}
use Rattle.fix_tags.specs.Digits.{leading_digits, after_digits, all_zeros, digits_number, within}

-- after the whole shares nothing stands, or a point and zeros
abbrev pub is_no_part : List ℕ → Bool
is_no_part [] = true
is_no_part (c ∷ cs) = (c == 46) && all_zeros cs

-- what is read: one or more digits, then nothing or a point and zeros, of a value up to 999,999,999
unfoldable pub shares_of : List ℕ → Option ℕ
shares_of text =
    if nat_lt 0 (length (leading_digits text)) && is_no_part (after_digits text)
    then within 0 999_999_999 (digits_number (leading_digits text))
    else None

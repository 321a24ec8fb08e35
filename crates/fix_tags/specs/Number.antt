-- A number, as of a sequence or a length (FIX 4.4 Volume 1, data types int, SeqNum and Length).
use Rattle.std.specs.Prelude.{ℕ, ◌&&◌, List, length, Option, None, ◌==◌, nat_lt, if◌then◌else◌}
use Rattle.fix_tags.specs.Digits.{leading_digits, after_digits, digits_number, within}

-- what is read: one or more digits and nothing after them, of a value up to 999,999,999,999
unfoldable pub number_of : List ℕ → Option ℕ
number_of text =
    if nat_lt 0 (length (leading_digits text)) && (length (after_digits text) == 0)
    then within 0 999_999_999_999 (digits_number (leading_digits text))
    else None

-- Dollars, in ten-thousandths of one, and their text.
use Rattle.std.specs.Prelude.{ℕ, ◌*◌, ◌/◌, ◌%◌, List, [], ◌++◌, codes, decimal, ◌==◌, if◌then◌else◌}
use Rattle.order_limits.specs.declared.dollars.Dollars.{Dollars}

-- so many whole dollars
abbrev pub of_dollars : ℕ → Dollars
of_dollars dollars = record { ten_thousandths = dollars * 10_000 }

-- the digit that counts this unit
abbrev pub digit_text : ℕ → ℕ → List ℕ
digit_text unit n = decimal (n / unit % 10)

-- the first decimals, one to four of them
abbrev pub one_decimal : ℕ → List ℕ
one_decimal n = digit_text 1_000 n

abbrev pub two_decimals : ℕ → List ℕ
two_decimals n = one_decimal n ++ digit_text 100 n

abbrev pub three_decimals : ℕ → List ℕ
three_decimals n = two_decimals n ++ digit_text 10 n

abbrev pub four_decimals : ℕ → List ℕ
four_decimals n = three_decimals n ++ digit_text 1 n

-- as many decimals as it takes, the last of them no zero; none where the dollars are whole
abbrev pub decimals_text : ℕ → List ℕ
decimals_text n =
    if n % 10_000 == 0 then [] else codes "." ++ (
    if n % 1_000 == 0 then one_decimal n else (
    if n % 100 == 0 then two_decimals n else (
    if n % 10 == 0 then three_decimals n else four_decimals n)))

-- dollars of so many ten-thousandths, as `612000.5` or `500000`
unfoldable pub dollars_text : ℕ → List ℕ
dollars_text n = decimal (n / 10_000) ++ decimals_text n

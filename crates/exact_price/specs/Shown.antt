-- A price or a value as text, and the average price of some shares.
use Rattle.std.specs.Prelude.{ℕ, ◌+◌, ◌*◌, ◌/◌, ◌%◌, List, [], ◌++◌, codes, decimal, ◌==◌, if◌then◌else◌}

-- the digit that counts this unit
abbrev pub digit_text : ℕ → ℕ → List ℕ
digit_text unit n = decimal (n / unit % 10)

-- the first decimals of a fraction, one to eight of them
abbrev pub one_decimal : ℕ → List ℕ
one_decimal n = digit_text 10_000_000 n

abbrev pub two_decimals : ℕ → List ℕ
two_decimals n = one_decimal n ++ digit_text 1_000_000 n

abbrev pub three_decimals : ℕ → List ℕ
three_decimals n = two_decimals n ++ digit_text 100_000 n

abbrev pub four_decimals : ℕ → List ℕ
four_decimals n = three_decimals n ++ digit_text 10_000 n

abbrev pub five_decimals : ℕ → List ℕ
five_decimals n = four_decimals n ++ digit_text 1_000 n

abbrev pub six_decimals : ℕ → List ℕ
six_decimals n = five_decimals n ++ digit_text 100 n

abbrev pub seven_decimals : ℕ → List ℕ
seven_decimals n = six_decimals n ++ digit_text 10 n

abbrev pub eight_decimals : ℕ → List ℕ
eight_decimals n = seven_decimals n ++ digit_text 1 n

-- as many decimals as it takes, the last of them no zero; none where the fraction is none
abbrev pub decimals_text : ℕ → List ℕ
decimals_text n =
    if n % 100_000_000 == 0 then [] else codes "." ++ (
    if n % 10_000_000 == 0 then one_decimal n else (
    if n % 1_000_000 == 0 then two_decimals n else (
    if n % 100_000 == 0 then three_decimals n else (
    if n % 10_000 == 0 then four_decimals n else (
    if n % 1_000 == 0 then five_decimals n else (
    if n % 100 == 0 then six_decimals n else (
    if n % 10 == 0 then seven_decimals n else eight_decimals n)))))))

-- a price or a value in hundred-millionths, as `10.25`, `10` or `0.00000001`
abbrev pub exact_text : ℕ → List ℕ
exact_text n = decimal (n / 100_000_000) ++ decimals_text n

-- the average price of so many shares of a value, rounded to the nearest hundred-millionth, a half up
abbrev pub average : ℕ → ℕ → ℕ
average value shares = (value * 2 + shares) / (shares * 2)

-- A whole number of the file.
use Rattle.std.specs.Prelude.{ℕ, ℤ, pos, negsuc, Option, Some, None, option_and_then}
use Rattle.toml.specs.Data.{Data, as_integer}
use Rattle.fix_tags.specs.Digits.{within}

-- a whole number that isn't negative
abbrev pub nat_of : ℤ → Option ℕ
nat_of (pos n) = Some n
nat_of (negsuc n) = None

-- a whole number within limits
abbrev pub number_within : ℕ → ℕ → Data → Option ℕ
number_within least most given = option_and_then (within least most) (option_and_then nat_of (as_integer given))

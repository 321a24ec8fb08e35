-- A leg's number in two numbers of a fixed width.
use Rattle.std.specs.Prelude.{ℕ, List, Option, Some, option_and_then}
use Rattle.leg.specs.LegId.{LegIdParts}
use Rattle.dialect.specs.Digits.{fixed_of}

-- the leg's number of a sweep in digits of a base, this many, and of a place in two
abbrev pub fixed_id_of : ℕ → ℕ → List ℕ → List ℕ → Option LegIdParts
fixed_id_of base width sweep_text place_text =
    option_and_then (λ sweep.
    option_and_then (λ place. Some (record { sweep = sweep; place = place }))
    (fixed_of base 2 32 place_text))
    (fixed_of base width 999_999_999_999 sweep_text)

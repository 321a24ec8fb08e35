-- The line of a sweep.
use Rattle.std.specs.Prelude.{ℕ, List, [], ◌∷◌, ◌++◌, codes, decimal, Option}
use Rattle.std.specs.Option.{option_map_or}
use Rattle.leg.specs.declared.totals.Totals.{Totals}
use Rattle.schedule.specs.Printed.{parts_text}

-- a sweep of a number, with so many shares, and what became of them, if that is known
abbrev pub shares_line : ℕ → ℕ → Option Totals → List ℕ
shares_line number shares parts =
    codes "sweep " ++ decimal number ++ codes " legs " ++ decimal shares ++ option_map_or parts_text parts [] ++ 10 ∷ []

-- A desk with limits: 20,000 shares and 500,000 dollars a leg, and 5,000 shares at the second venue; 900,000 dollars a
-- sweep, 1,000,000 dollars a day; and the symbols IBM and BRK.B.
use Rattle.std.specs.Prelude.{◌≡◌, ℕ, List, [], ◌∷◌, codes, Some, None, Result, Ok, Err}
use Rattle.leg.specs.Symbol.{SymbolParts}
use Rattle.leg.specs.declared.side.Side.TheVariants.{Buy}
use Rattle.leg.specs.declared.sweep.Routed.{Routed}
use Rattle.order_limits.specs.declared.dollars.Dollars.{Dollars}
use Rattle.order_limits.specs.declared.over.Excess.{Excess}
use Rattle.order_limits.specs.declared.over.Over.TheVariants.{LegShares, LegDollars, SweepDollars, DayDollars, OtherSymbol}
use Rattle.order_limits.specs.Day.{judged}
use Rattle.order_limits.specs.Dollars.{of_dollars}
use Rattle.order_limits.specs.Limits.{LimitParts, over_all, over_in, unlimited}
use Rattle.order_limits.specs.Over.{over_text}

abbrev pub ibm : SymbolParts
ibm = record { root = codes "IBM"; suffix = [] }

abbrev pub brk_b : SymbolParts
brk_b = record { root = codes "BRK"; suffix = codes "B" }

abbrev pub brk : SymbolParts
brk = record { root = codes "BRK"; suffix = [] }

abbrev pub limits : LimitParts
limits = record {
  leg = record { shares = Some 20_000; dollars = Some 500_000 };
  sweep_dollars = Some 900_000;
  day_dollars = Some 1_000_000;
  symbols = ibm ∷ brk_b ∷ [];
  venues = unlimited ∷ record { shares = Some 5_000; dollars = None } ∷ [];
}

abbrev pub dollars : ℕ → Dollars
dollars n = record { ten_thousandths = n }

-- a sweep is judged on a day of which so much is placed
abbrev pub judged_at : ℕ → List Routed → Result Dollars Excess
judged_at placed legs = judged limits (dollars placed) legs

-- so many shares of a symbol, at a price in ten-thousandths of a dollar
abbrev pub order : ℕ → SymbolParts → ℕ → ℕ → Routed
order venue symbol shares price = record {
  venue = venue;
  terms = record { symbol = symbol; side = Buy; shares = shares; price = price };
}

pub record LegCases : Type 0 where
  pub at_shares : judged_at 0 (order 0 ibm 20_000 10_000 ∷ []) ≡ Ok (of_dollars 20_000)
  pub above_shares : judged_at 0 (order 0 ibm 20_001 10_000 ∷ [])
      ≡ Err (over_in (order 0 ibm 20_001 10_000) (LegShares ibm 20_001 20_000))
  pub at_the_venue : judged_at 0 (order 1 ibm 5_000 10_000 ∷ []) ≡ Ok (of_dollars 5_000)
  pub above_the_venue : judged_at 0 (order 0 ibm 20_000 10_000 ∷ order 1 ibm 5_001 10_000 ∷ [])
      ≡ Err (over_in (order 1 ibm 5_001 10_000) (LegShares ibm 5_001 5_000))
  pub at_dollars : judged_at 0 (order 0 ibm 20_000 250_000 ∷ []) ≡ Ok (of_dollars 500_000)
  pub above_dollars : judged_at 0 (order 0 ibm 20_000 250_001 ∷ [])
      ≡ Err (over_in (order 0 ibm 20_000 250_001) (LegDollars ibm (dollars 5_000_020_000) (of_dollars 500_000)))
  pub shares_come_first : judged_at 0 (order 0 ibm 20_000 250_001 ∷ order 1 brk 5_001 1 ∷ [])
      ≡ Err (over_in (order 1 brk 5_001 1) (LegShares brk 5_001 5_000))

pub record SweepCases : Type 0 where
  pub at_limit : judged_at 0 (order 0 ibm 20_000 250_000 ∷ order 0 ibm 10_000 400_000 ∷ [])
      ≡ Ok (of_dollars 900_000)
  pub above_limit : judged_at 0
      (order 0 ibm 20_000 250_000 ∷ order 0 ibm 10_000 400_000 ∷ order 0 ibm 1 1 ∷ [])
      ≡ Err (over_all (SweepDollars (dollars 9_000_000_001) (of_dollars 900_000)))

pub record DayCases : Type 0 where
  pub first : judged_at 0 (order 0 ibm 10_000 400_000 ∷ []) ≡ Ok (of_dollars 400_000)
  pub second : judged_at 4_000_000_000 (order 0 ibm 10_000 400_000 ∷ []) ≡ Ok (of_dollars 800_000)
  pub third : judged_at 8_000_000_000 (order 0 ibm 10_000 200_000 ∷ []) ≡ Ok (of_dollars 1_000_000)
  pub above : judged_at 10_000_000_000 (order 0 ibm 1 1 ∷ [])
      ≡ Err (over_all (DayDollars (dollars 10_000_000_001) (of_dollars 1_000_000)))

pub record SymbolCases : Type 0 where
  pub known : judged_at 0 (order 0 ibm 1 10_000 ∷ order 0 brk_b 1 10_000 ∷ []) ≡ Ok (of_dollars 2)
  pub unknown : judged_at 0 (order 0 ibm 1 1 ∷ order 0 brk 1 1 ∷ [])
      ≡ Err (over_in (order 0 brk 1 1) (OtherSymbol brk))
  pub dollars_come_first : judged_at 10_000_000_000 (order 0 brk 1 1 ∷ [])
      ≡ Err (over_all (DayDollars (dollars 10_000_000_001) (of_dollars 1_000_000)))

pub record TextCases : Type 0 where
  pub shares : over_text (LegShares ibm 30_000 20_000) ≡ codes "IBM has 30000 shares, and a leg may have 20000"
  pub leg : over_text (LegDollars brk_b (dollars 6_120_005_000) (of_dollars 500_000))
      ≡ codes "BRK.B has 612000.5 dollars, and a leg may have 500000"
  pub sweep : over_text (SweepDollars (dollars 9_000_000_001) (of_dollars 900_000))
      ≡ codes "it has 900000.0001 dollars, and a sweep may have 900000"
  pub day : over_text (DayDollars (dollars 10_000_000_001) (of_dollars 1_000_000))
      ≡ codes "the day would have 1000000.0001 dollars, and may have 1000000"

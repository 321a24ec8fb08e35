-- A day under limits.
use Rattle.std.specs.Prelude.{◌+◌, ◌≤◌, List, Option, Some, None, Result, Ok, Err, IfSome, sum_by}
use Rattle.leg.specs.declared.sweep.Routed.{Routed}
use Rattle.order_limits.specs.declared.dollars.Dollars.{Dollars}
use Rattle.order_limits.specs.declared.over.Excess.{Excess}
use Rattle.order_limits.specs.Dollars.{of_dollars}
use Rattle.order_limits.specs.Limits.{LimitParts, first_excess}
use Rattle.order_limits.specs.Money.{sweep_amount}

-- what the sweeps of a day come to: the sum over them
abbrev pub dollars_of : List (List Routed) → Dollars
dollars_of sweeps = record { ten_thousandths = sum_by sweep_amount sweeps }

-- what a day comes to with a sweep of these legs: what is placed, and the sweep's dollars
abbrev pub with_sweep : Dollars → List Routed → Dollars
with_sweep placed legs = record { ten_thousandths = placed.ten_thousandths + sweep_amount legs }

-- a day under these limits may come to these dollars: they are within its limit, if it has one
abbrev pub MayComeTo : LimitParts → Dollars → Type 0
MayComeTo limits dollars =
    IfSome limits.day_dollars (λ limit. dollars.ten_thousandths ≤ (of_dollars limit).ten_thousandths)

-- a refusal, or else this
abbrev pub unless_over : Option Excess → Dollars → Result Dollars Excess
unless_over (Some excess) dollars = Err excess
unless_over None dollars = Ok dollars

-- a sweep of these legs is judged by limits on a day of which so much is placed: what the day comes to with it, or the
-- first limit that it is over
abbrev pub judged : LimitParts → Dollars → List Routed → Result Dollars Excess
judged limits placed legs =
    unless_over (first_excess limits (with_sweep placed legs) legs) (with_sweep placed legs)

-- so where there may be no limits at all
abbrev pub judged_if : Option LimitParts → Dollars → List Routed → Result Dollars Excess
judged_if None placed legs = Ok (with_sweep placed legs)
judged_if (Some limits) placed legs = judged limits placed legs

-- a day that may have limits may come to these dollars
abbrev pub MayComeToIf : Option LimitParts → Dollars → Type 0
MayComeToIf limits dollars = IfSome limits (λ parts. MayComeTo parts dollars)

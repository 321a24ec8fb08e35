-- An order as its exchange sees it (FIX 4.4 Volume 4, ExecutionReport: OrderID, CumQty, LeavesQty).
use Rattle.std.specs.Prelude.{ℕ, ◌+◌, ◌≤◌, List, Option, Some, None, nat_le, if◌then◌else◌}
use Rattle.leg.specs.declared.leg.Leg.{Leg}
use Rattle.leg.specs.Leg.{IsLeg}
use Rattle.dialect.specs.FreeText.{IsFreeText}

-- the leg, the order's id, the shares filled and not busted, and the shares open
pub record OrderViewParts : Type 0 where
  pub leg : Leg
  pub order_id : List ℕ
  pub cum : ℕ
  pub leaves : ℕ

-- each part is in range, and no more is filled or open than the leg is for
pub record IsOrderView (view : OrderViewParts) : Type 0 where
  pub leg : IsLeg view.leg
  pub order_id : IsFreeText 64 view.order_id
  pub within : view.cum + view.leaves ≤ view.leg.terms.shares

-- the view of these parts, where no more is filled or open than the leg is for
abbrev pub order_view_of : Leg → List ℕ → ℕ → ℕ → Option OrderViewParts
order_view_of leg order_id cum leaves =
    if nat_le (cum + leaves) leg.terms.shares
    then Some (record { leg = leg; order_id = order_id; cum = cum; leaves = leaves })
    else None

-- An order that was sent, and what the reports on it add up to.
use Rattle.std.specs.Prelude.{ℕ, Bool, true, false, ◌&&◌, List, Option, Some, nat_le, nat_lt, if◌then◌else◌}
use Rattle.leg.specs.declared.side.Side.{Side}
use Rattle.log_rules.specs.declared.order_said.OrderSaid.{OrderSaid}
use Rattle.log_rules.specs.declared.report_said.ReportSaid.{ReportSaid}

-- its id (11), the number that it was sent under, its symbol (55), side (54) and price (44), the shares filled and
-- open, and whether the exchange asked for it again while it was in doubt
pub record OrderParts : Type 0 where
  pub id : List ℕ
  pub number : ℕ
  pub symbol : Option (List ℕ)
  pub side : Option Side
  pub price : Option ℕ
  pub cum : ℕ
  pub leaves : ℕ
  pub is_withdrawn : Bool

-- an order as it is sent: all of its shares are open
abbrev pub new_order : ℕ → OrderSaid → OrderParts
new_order number said = record {
  id = said.id;
  number = number;
  symbol = said.symbol;
  side = said.side;
  price = said.price;
  cum = 0;
  leaves = said.shares;
  is_withdrawn = false;
}

-- it is withdrawn where the exchange expects its number or one below. From the settled number down it expects what it
-- had passed, and so has forgotten: that withdraws none
abbrev pub withdrawn_by : ℕ → ℕ → OrderParts → OrderParts
withdrawn_by settled expected o =
    if nat_lt settled expected && nat_le expected o.number then record o { is_withdrawn = true } else o

-- its sums are those of a report that says them
abbrev pub summed_up : Option ℕ → Option ℕ → OrderParts → OrderParts
summed_up (Some cum) (Some leaves) o = record o { cum = cum; leaves = leaves }
summed_up cum leaves o = o

abbrev pub reported : ReportSaid → OrderParts → OrderParts
reported said o = summed_up said.cum said.leaves o

-- it was refused: nothing is open
abbrev pub refused : OrderParts → OrderParts
refused o = record o { leaves = 0 }

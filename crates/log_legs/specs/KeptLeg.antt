-- An order of a log, and what became of its shares.
use Rattle.std.specs.Prelude.{ℕ, ◌+◌, ◌-◌, ◌^◌, min, Bool, true, false, ◌&&◌, List, [], ◌∷◌, ◌++◌, Option, Some, None, ◌==◌, if◌then◌else◌}
use Rattle.leg.specs.declared.side.Side.{Side}
use Rattle.log_rules.specs.declared.order_said.OrderSaid.{OrderSaid}
use Rattle.log_legs.specs.Parts.{ShareParts, all_open, moved, parts_sum}
use Rattle.log_legs.specs.declared.share_move.Move.{Move}

-- what an order buys or sells, as far as it can be read, how often it was sent, whether a report on it was counted, and
-- what became of its shares
pub record LegParts : Type 0 where
  pub symbol : List ℕ
  pub side : Option Side
  pub price : Option ℕ
  pub sent : ℕ
  pub is_reported : Bool
  pub parts : ShareParts

-- the symbol (55), with its suffix (65) behind a point
abbrev pub symbol_said : Option (List ℕ) → Option (List ℕ) → List ℕ
symbol_said None suffix = []
symbol_said (Some symbol) None = symbol
symbol_said (Some symbol) (Some suffix) = symbol ++ 46 ∷ suffix

-- an order that is sent for the first time
abbrev pub new_leg : OrderSaid → LegParts
new_leg said = record {
  symbol = symbol_said said.symbol said.suffix;
  side = said.side;
  price = said.price;
  sent = 1;
  is_reported = false;
  parts = all_open said.shares;
}

-- it is sent once more
abbrev pub sent_again : LegParts → LegParts
sent_again leg = record leg { sent = min (leg.sent + 1) (2 ^ 64 - 1) }

-- it was asked for again in doubt, and never sent again, while all of its shares were open
abbrev pub is_gone : Bool → LegParts → Bool
is_gone is_withdrawn leg = is_withdrawn && (leg.sent == 1) && (leg.parts.still_open == parts_sum leg.parts)

-- a report on it is counted: no share of an order that is gone moves
abbrev pub reported : Bool → Move → LegParts → LegParts
reported is_withdrawn change leg =
    if is_gone is_withdrawn leg then leg else record leg { is_reported = true; parts = moved change leg.parts }

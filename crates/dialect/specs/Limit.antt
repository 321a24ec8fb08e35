-- How much an order is for, at which limit, and on which side (FIX 4.4 Volume 4, NewOrderSingle: OrderQty, OrdType,
-- Price, Side).
use Rattle.std.specs.Prelude.{ℕ, List, [], ◌∷◌, Option, Some, None, option_and_then, codes, decimal, Result, Ok, ◌==◌, if◌then◌else◌}
use Rattle.fix_text.specs.Then.{◌>>=◌, unless}
use Rattle.fix_text.specs.Tagged.{Tagged}
use Rattle.fix_tags.specs.Shares.{shares_of}
use Rattle.fix_tags.specs.Price.{price_of}
use Rattle.leg.specs.declared.side.Side.{Side}
use Rattle.leg.specs.declared.side.Side.TheVariants.{Buy, Sell}
use Rattle.leg.specs.declared.leg.Leg.{Leg}
use Rattle.leg.specs.LegId.{LegIdParts}
use Rattle.leg.specs.Symbol.{SymbolParts}
use Rattle.leg.specs.Terms.{is_shares, IsShares, IsPrice}
use Rattle.dialect.specs.declared.limit.Limit.{Limit}
use Rattle.dialect.specs.declared.fault.DialectFault.{DialectFault}
use Rattle.dialect.specs.declared.fault.DialectFault.TheVariants.{Bad}
use Rattle.dialect.specs.Fields.{required, required_as, is_text, field}

-- shares and price are those of a leg
pub record IsInRange (limit : Limit) : Type 0 where
  pub shares : IsShares limit.shares
  pub price : IsPrice limit.price

-- shares that a leg may be for
abbrev pub order_shares_of : List ℕ → Option ℕ
order_shares_of text = option_and_then (λ n. if is_shares n then Some n else None) (shares_of text)

-- the byte of a side: '1' buys and '2' sells
abbrev pub side_text : Side → List ℕ
side_text Buy = codes "1"
side_text Sell = codes "2"

-- the side of one byte
abbrev pub side_of : List ℕ → Option Side
side_of [] = None
side_of (c ∷ []) = if c == 49 then Some Buy else (if c == 50 then Some Sell else None)
side_of (c ∷ d ∷ ds) = None

-- OrdType (40) must be `2`, a limit order
abbrev pub limit_order_in : List Tagged → Result (Unit {0}) DialectFault
limit_order_in fields = required fields 40 >>= λ text. unless (is_text (codes "2") text) (Bad 40)

-- what is read: 38, 40, 44 and 54
unfoldable pub limit_in : List Tagged → Result Limit DialectFault
limit_in fields = do
  shares ← required_as order_shares_of fields 38
  kind ← limit_order_in fields
  price ← required_as price_of fields 44
  side ← required_as side_of fields 54
  Ok (record { shares = shares; price = price; side = side })

-- what is written, the price as the dialect spells it
abbrev pub limit_fields : ℕ → List ℕ → Side → List Tagged
limit_fields shares price side =
    field 38 (decimal shares) ∷ field 40 (codes "2") ∷ field 44 price ∷ field 54 (side_text side) ∷ []

-- the leg of an order
abbrev pub leg_of : LegIdParts → SymbolParts → Limit → Leg
leg_of id symbol limit =
    record {
      id = id;
      terms = record { symbol = symbol; side = limit.side; shares = limit.shares; price = limit.price };
    }

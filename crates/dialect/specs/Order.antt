-- An order (FIX 4.4 Volume 4, NewOrderSingle) in any spelling.
use Rattle.std.specs.Prelude.{◌≡◌, ℕ, ◌+◌, length, List, [], ◌∷◌, ◌++◌, codes, Some, IsSome, Result, Ok}
use Rattle.fix_text.specs.Then.{◌>>=◌, unless}
use Rattle.fix_text.specs.Tagged.{Tagged, value_of}
use Rattle.fix_tags.specs.Price.{price_of}
use Rattle.fix_tags.specs.Shares.{shares_of}
use Rattle.fix_tags.specs.Stamp.{StampParts, IsStamp}
use Rattle.leg.specs.declared.leg.Leg.{Leg}
use Rattle.leg.specs.Leg.{IsLeg}
use Rattle.dialect.specs.declared.fault.DialectFault.{DialectFault}
use Rattle.dialect.specs.declared.fault.DialectFault.TheVariants.{NotMarked}
use Rattle.dialect.specs.Fields.{required_as, ReadsAs, field, AreIn}
use Rattle.dialect.specs.Mark.{CarriesMark}
use Rattle.dialect.specs.Limit.{side_text, limit_in, limit_fields, leg_of}
use Rattle.dialect.specs.Time.{immediate_in, immediate_fields}
use Rattle.dialect.specs.Spelling.{SpellingParts}

-- what is written for a leg at a moment
abbrev pub order_fields : SpellingParts → Leg → StampParts → List Tagged
order_fields s leg stamp =
    field 11 (s.id_text leg.id) ∷ s.mark ∷ []
    ++ limit_fields leg.terms.shares (s.price_text leg.terms.price) leg.terms.side
    ++ s.symbol_fields leg.terms.symbol
    ++ (immediate_fields stamp ++ s.extra)

-- how many fields an order has at most: ten, where a symbol has two, and those that every order carries besides
abbrev pub most_order_fields : SpellingParts → ℕ
most_order_fields s = 10 + length s.extra

-- these fields are an order for this leg, made at this moment
pub record IsOrderOf (s : SpellingParts) (leg : Leg) (stamp : StampParts) (fields : List Tagged) : Type 0 where
  pub leg_in_range : IsLeg leg
  pub stamp_in_range : IsStamp stamp
  pub written : fields ≡ order_fields s leg stamp

-- what is read: the leg, or the first fault
unfoldable pub order_read_of : SpellingParts → List Tagged → Result Leg DialectFault
order_read_of s fields = do
  id ← required_as s.id_of fields 11
  marked ← unless (s.is_marked fields) NotMarked
  limit ← limit_in fields
  symbol ← s.symbol_in fields
  immediate ← immediate_in fields
  Ok (leg_of id symbol limit)

-- what fields say that are read as an order for this leg: but for its shares, its price and the stamp, each value is
-- the one that is written
pub record IsReadingOf (s : SpellingParts) (leg : Leg) (fields : List Tagged) : Type 0 where
  pub id : value_of fields 11 ≡ Some (s.id_text leg.id)
  pub marked : CarriesMark s.mark fields
  pub shares : ReadsAs shares_of fields 38 leg.terms.shares
  pub limit : value_of fields 40 ≡ Some (codes "2")
  pub price : ReadsAs price_of fields 44 leg.terms.price
  pub side : value_of fields 54 ≡ Some (side_text leg.terms.side)
  pub symbol : AreIn fields (s.symbol_fields leg.terms.symbol)
  pub immediate : value_of fields 59 ≡ Some (codes "3")
  pub timed : IsSome (value_of fields 60)

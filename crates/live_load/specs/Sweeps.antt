-- The sweeps of a day, as callers release them.
use Rattle.std.specs.Prelude.{ℕ, zero, suc, List, [], ◌∷◌, ◌++◌, codes}
use Rattle.leg.specs.declared.side.Side.TheVariants.{Buy}
use Rattle.leg.specs.declared.sweep.Routed.{Routed}

-- buy 10 IBM at a venue, at 10 dollars, which are 100,000 ten-thousandths of one
abbrev pub one_order : ℕ → Routed
one_order venue = record {
  venue = venue;
  terms = record {
    symbol = record { root = codes "IBM"; suffix = [] };
    side = Buy;
    shares = 10;
    price = 100000;
  };
}

-- such an order for each of so many venues
abbrev pub orders_to : ℕ → List Routed
orders_to zero = []
orders_to (suc venue) = orders_to venue ++ one_order venue ∷ []

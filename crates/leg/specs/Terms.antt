-- The terms of an order: what is bought or sold, how much of it, and at what price.
use Rattle.std.specs.Prelude.{ℕ, ◌≤◌, Bool, ◌&&◌, nat_le, Result, Ok, Err, if◌then◌else◌}
use Rattle.leg.specs.declared.fault.LegFault.{LegFault}
use Rattle.leg.specs.declared.fault.LegFault.TheVariants.{BadShares, BadPrice}
use Rattle.leg.specs.declared.side.Side.{Side}
use Rattle.leg.specs.Symbol.{SymbolParts, IsSymbol}

-- the parts of the terms, with the price in ten-thousandths of a dollar
pub record TermsParts : Type 0 where
  pub symbol : SymbolParts
  pub side : Side
  pub shares : ℕ
  pub price : ℕ

-- whether a leg may be for this many shares
abbrev pub is_shares : ℕ → Bool
is_shares shares = nat_le 1 shares && nat_le shares 1000000

-- a leg may be for this many shares
pub record IsShares (shares : ℕ) : Type 0 where
  pub low : 1 ≤ shares
  pub high : shares ≤ 1000000

-- whether a price, in ten-thousandths of a dollar, is in range
abbrev pub is_price : ℕ → Bool
is_price price = nat_le 1 price && nat_le price 9999999999

-- a price, in ten-thousandths of a dollar, is in range
pub record IsPrice (price : ℕ) : Type 0 where
  pub low : 1 ≤ price
  pub high : price ≤ 9999999999

-- each part of the terms is in range
pub record IsTerms (terms : TermsParts) : Type 0 where
  pub symbol : IsSymbol terms.symbol
  pub shares : IsShares terms.shares
  pub price : IsPrice terms.price

-- the terms of these parts, or the first fault: of the shares, then of the price
abbrev pub terms_of : SymbolParts → Side → ℕ → ℕ → Result TermsParts LegFault
terms_of symbol side shares price =
    if is_shares shares
    then (if is_price price
    then Ok (record { symbol = symbol; side = side; shares = shares; price = price })
    else Err BadPrice)
    else Err BadShares

-- Limits, and the first one that a sweep is over.
use Rattle.std.specs.Prelude.{ℕ, Bool, true, not, ◌&&◌, nat_lt, min, List, [], ◌∷◌, Option, Some, None, slice_get}
use Rattle.std.specs.List.{list_any}
use Rattle.std.specs.Str.{bytes_eq}
use Rattle.leg.specs.Refusing.{◌or_then◌, refused_if}
use Rattle.leg.specs.Symbol.{SymbolParts}
use Rattle.leg.specs.declared.sweep.Routed.{Routed}
use Rattle.order_limits.specs.declared.dollars.Dollars.{Dollars}
use Rattle.order_limits.specs.declared.limits.LegLimits.{LegLimits}
use Rattle.order_limits.specs.declared.over.Excess.{Excess}
use Rattle.order_limits.specs.declared.over.Over.{Over}
use Rattle.order_limits.specs.declared.over.Over.TheVariants.{LegShares, LegDollars, SweepDollars, DayDollars, OtherSymbol}
use Rattle.order_limits.specs.Dollars.{of_dollars}
use Rattle.order_limits.specs.Money.{leg_money, sweep_money}

-- what orders may have at most: each leg, in shares and whole dollars; a sweep, and the day, in whole dollars; the
-- symbols that may be ordered, any where there is none; and what each leg for a venue may have beside
pub record LimitParts : Type 0 where
  pub leg : LegLimits
  pub sweep_dollars : Option ℕ
  pub day_dollars : Option ℕ
  pub symbols : List SymbolParts
  pub venues : List LegLimits

abbrev pub limits_of : LegLimits → Option ℕ → Option ℕ → List SymbolParts → List LegLimits → LimitParts
limits_of leg sweep day symbols venues = record {
  leg = leg;
  sweep_dollars = sweep;
  day_dollars = day;
  symbols = symbols;
  venues = venues;
}

-- a leg may have as much as a leg can
abbrev pub unlimited : LegLimits
unlimited = record { shares = None; dollars = None }

-- nothing is limited
abbrev pub no_limits : LimitParts
no_limits = limits_of unlimited None None [] []

-- the lower of two limits, where there are any
abbrev pub tighter : Option ℕ → Option ℕ → Option ℕ
tighter None other = other
tighter (Some limit) None = Some limit
tighter (Some limit) (Some other) = Some (min limit other)

-- the limits of a venue's shares and dollars in one leg, if it has any of its own
abbrev pub own_shares : Option LegLimits → Option ℕ
own_shares None = None
own_shares (Some own) = own.shares

abbrev pub own_dollars : Option LegLimits → Option ℕ
own_dollars None = None
own_dollars (Some own) = own.dollars

-- what a leg for a venue may have: what the desk and the venue both allow
abbrev pub shares_limit : LimitParts → ℕ → Option ℕ
shares_limit limits venue = tighter limits.leg.shares (own_shares (slice_get limits.venues venue))

abbrev pub dollars_limit : LimitParts → ℕ → Option ℕ
dollars_limit limits venue = tighter limits.leg.dollars (own_dollars (slice_get limits.venues venue))

-- what a leg is over
abbrev pub over_in : Routed → Over → Excess
over_in leg over = record { venue = Some leg.venue; over = over }

-- what the sweep as a whole is over
abbrev pub over_all : Over → Excess
over_all over = record { venue = None; over = over }

-- a leg is over its shares
abbrev pub over_shares : Routed → Option ℕ → Option Excess
over_shares leg None = None
over_shares leg (Some limit) =
    refused_if (nat_lt limit leg.terms.shares) (over_in leg (LegShares leg.terms.symbol leg.terms.shares limit))

abbrev pub shares_excess : LimitParts → Routed → Option Excess
shares_excess limits leg = over_shares leg (shares_limit limits leg.venue)

-- whether dollars are more than a limit
abbrev pub is_more : Dollars → Dollars → Bool
is_more dollars limit = nat_lt limit.ten_thousandths dollars.ten_thousandths

-- a leg is over its dollars
abbrev pub over_dollars : Routed → Option ℕ → Option Excess
over_dollars leg None = None
over_dollars leg (Some limit) =
    refused_if (is_more (leg_money leg) (of_dollars limit))
    (over_in leg (LegDollars leg.terms.symbol (leg_money leg) (of_dollars limit)))

abbrev pub dollars_excess : LimitParts → Routed → Option Excess
dollars_excess limits leg = over_dollars leg (dollars_limit limits leg.venue)

-- a sweep that comes to so much is over its dollars
abbrev pub over_sweep : Dollars → Option ℕ → Option Excess
over_sweep money None = None
over_sweep money (Some limit) =
    refused_if (is_more money (of_dollars limit)) (over_all (SweepDollars money (of_dollars limit)))

-- a day that comes to so much is over its dollars
abbrev pub over_day : Dollars → Option ℕ → Option Excess
over_day money None = None
over_day money (Some limit) =
    refused_if (is_more money (of_dollars limit)) (over_all (DayDollars money (of_dollars limit)))

-- whether two symbols are the same
abbrev pub is_same_symbol : SymbolParts → SymbolParts → Bool
is_same_symbol one other = bytes_eq one.root other.root && bytes_eq one.suffix other.suffix

-- whether a symbol is one of these
abbrev pub is_among : List SymbolParts → SymbolParts → Bool
is_among symbols symbol = list_any (λ known. is_same_symbol known symbol) symbols

-- whether the desk may order a symbol: any, where none is listed
abbrev pub may_order : List SymbolParts → SymbolParts → Bool
may_order [] symbol = true
may_order (known ∷ rest) symbol = is_among (known ∷ rest) symbol

abbrev pub symbol_excess : LimitParts → Routed → Option Excess
symbol_excess limits leg =
    refused_if (not (may_order limits.symbols leg.terms.symbol)) (over_in leg (OtherSymbol leg.terms.symbol))

-- the first that is found of the legs, in their order
abbrev pub first_of : (Routed → Option Excess) → List Routed → Option Excess
first_of excess [] = None
first_of excess (leg ∷ legs) = excess leg or_then first_of excess legs

-- the first limit that a sweep of these legs is over, on a day that comes to so much with it
unfoldable pub first_excess : LimitParts → Dollars → List Routed → Option Excess
first_excess limits day legs =
    first_of (shares_excess limits) legs
    or_then first_of (dollars_excess limits) legs
    or_then over_sweep (sweep_money legs) limits.sweep_dollars
    or_then over_day day limits.day_dollars
    or_then first_of (symbol_excess limits) legs

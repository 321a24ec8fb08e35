-- A sweep that is over none of the limits is within each.
use Rattle.std.proofs.Common.{◌≡◌, ℕ, ◌*◌, ◌≤◌, inl, inr, ◌⊎◌, Bool, true, false, List, [], ◌∷◌, Option, Some, None, Ok, refl, arith}
use Rattle.std.specs.Prelude.{IfSome, nat_lt, not, slice_get}
use Rattle.std.specs.List.{All}
use Rattle.std.proofs.Math.Nat.{min-le_left, min-le_right}
use Rattle.std.proofs.lemmas.List.Elements.{All-cons, All-head, All-nil, All-tail}
use Rattle.std.proofs.lemmas.Bool.Decides.{nat_tests}
use Rattle.leg.specs.Refusing.{◌or_then◌, refused_if}
use Rattle.leg.specs.Symbol.{SymbolParts}
use Rattle.leg.specs.declared.sweep.Routed.{Routed}
use Rattle.order_limits.specs.declared.dollars.Dollars.{Dollars}
use Rattle.order_limits.specs.declared.limits.LegLimits.{LegLimits}
use Rattle.order_limits.specs.declared.over.Excess.{Excess}
use Rattle.order_limits.specs.Day.{judged, unless_over, with_sweep}
use Rattle.order_limits.specs.Limits.{LimitParts, dollars_excess, first_excess, first_of, is_among, may_order, over_day, over_dollars, over_shares, over_sweep, own_dollars, own_shares, shares_excess, symbol_excess, tighter}
use Rattle.order_limits.specs.Money.{leg_amount, sweep_amount, sweep_money}
use Rattle.order_limits.specs.Within.{IsLegWithin, IsWithin}

none_first : (a b : Option Excess) → (a or_then b) ≡ None → a ≡ None
none_first (Some excess) b e = absurd cc
none_first None b e = refl

none_second : (a b : Option Excess) → (a or_then b) ≡ None → b ≡ None
none_second (Some excess) b e = absurd cc
none_second None b e = e

not_refused : (b : Bool) (excess : Excess) → refused_if b excess ≡ None → b ≡ false
not_refused true excess e = absurd cc
not_refused false excess e = refl

un_not : (b : Bool) → not b ≡ false → b ≡ true
un_not true e = refl
un_not false e = absurd cc

at_most : (a b : ℕ) → nat_lt a b ≡ false → b ≤ a
at_most a b e = grind (arith, nat_tests)

-- what holds of each leg for which nothing is found
each : (excess : Routed → Option Excess) (P : Routed → Type 0) → ((leg : Routed) → excess leg ≡ None → P leg)
    → (legs : List Routed) → first_of excess legs ≡ None → All P legs
each excess P holds [] e = All-nil P
each excess P holds (leg ∷ legs) e =
    All-cons P leg legs (holds leg (none_first (excess leg) (first_of excess legs) e))
    (each excess P holds legs (none_second (excess leg) (first_of excess legs) e))

both : (P Q R : Routed → Type 0) → ((leg : Routed) → P leg → Q leg → R leg) → (legs : List Routed) → All P legs
    → All Q legs → All R legs
both P Q R joins [] p q = All-nil R
both P Q R joins (leg ∷ legs) p q =
    All-cons R leg legs (joins leg (All-head P leg legs p) (All-head Q leg legs q))
    (both P Q R joins legs (All-tail P leg legs p) (All-tail Q leg legs q))

-- within the tighter limit, within either

either_shares : (amount : ℕ) (limit other : Option ℕ) → IfSome (tighter limit other) (λ most. amount ≤ most)
    → IfSome limit (λ most. amount ≤ most) × IfSome other (λ most. amount ≤ most)
either_shares amount None other within = (tt, within)
either_shares amount (Some limit) None within = (within, tt)
either_shares amount (Some limit) (Some other) within =
    let left = min-le_left limit other in
    let right = min-le_right limit other in
    (omega (arith, within, left), omega (arith, within, right))

either_dollars : (amount : ℕ) (limit other : Option ℕ) → IfSome (tighter limit other) (λ most. amount ≤ most * 10_000)
    → IfSome limit (λ most. amount ≤ most * 10_000) × IfSome other (λ most. amount ≤ most * 10_000)
either_dollars amount None other within = (tt, within)
either_dollars amount (Some limit) None within = (within, tt)
either_dollars amount (Some limit) (Some other) within =
    let left = min-le_left limit other in
    let right = min-le_right limit other in
    (omega (arith, within, left), omega (arith, within, right))

fits_shares : (leg : Routed) (limit : Option ℕ) → over_shares leg limit ≡ None
    → IfSome limit (λ most. leg.terms.shares ≤ most)
fits_shares leg None e = tt
fits_shares leg (Some limit) e = at_most limit leg.terms.shares (not_refused _ _ e)

fits_dollars : (leg : Routed) (limit : Option ℕ) → over_dollars leg limit ≡ None
    → IfSome limit (λ most. leg_amount leg ≤ most * 10_000)
fits_dollars leg None e = tt
fits_dollars leg (Some limit) e = at_most (limit * 10_000) (leg_amount leg) (not_refused _ _ e)

fits_sweep : (legs : List Routed) (limit : Option ℕ) → over_sweep (sweep_money legs) limit ≡ None
    → IfSome limit (λ most. sweep_amount legs ≤ most * 10_000)
fits_sweep legs None e = tt
fits_sweep legs (Some limit) e = at_most (limit * 10_000) (sweep_amount legs) (not_refused _ _ e)

fits_day : (day : Dollars) (limit : Option ℕ) → over_day day limit ≡ None
    → IfSome limit (λ most. day.ten_thousandths ≤ most * 10_000)
fits_day day None e = tt
fits_day day (Some limit) e = at_most (limit * 10_000) day.ten_thousandths (not_refused _ _ e)

-- of one leg

abbrev OwnShares : Option LegLimits → Routed → Type 0
OwnShares own leg = IfSome (own_shares own) (λ most. leg.terms.shares ≤ most)

abbrev OwnDollars : Option LegLimits → Routed → Type 0
OwnDollars own leg = IfSome (own_dollars own) (λ most. leg_amount leg ≤ most * 10_000)

own_within : (own : Option LegLimits) (leg : Routed) → OwnShares own leg → OwnDollars own leg
    → IfSome own (λ limits. IsLegWithin limits leg)
own_within None leg shares dollars = tt
own_within (Some limits) leg shares dollars = record { shares = shares; dollars = dollars }

module _ (limits : LimitParts) where
  abbrev own_of : Routed → Option LegLimits
  own_of leg = slice_get limits.venues leg.venue

  abbrev Shares : Routed → Type 0
  Shares leg = IfSome limits.leg.shares (λ most. leg.terms.shares ≤ most) × OwnShares (own_of leg) leg

  abbrev Dollared : Routed → Type 0
  Dollared leg = IfSome limits.leg.dollars (λ most. leg_amount leg ≤ most * 10_000) × OwnDollars (own_of leg) leg

  by_shares : (leg : Routed) → shares_excess limits leg ≡ None → Shares leg
  by_shares leg e =
      either_shares leg.terms.shares limits.leg.shares (own_shares (own_of leg)) (fits_shares leg _ e)

  by_dollars : (leg : Routed) → dollars_excess limits leg ≡ None → Dollared leg
  by_dollars leg e =
      either_dollars (leg_amount leg) limits.leg.dollars (own_dollars (own_of leg)) (fits_dollars leg _ e)

  may_be : (symbols : List SymbolParts) (legs : List Routed)
      → All (λ leg. may_order symbols leg.terms.symbol ≡ true) legs
      → (symbols ≡ []) ⊎ All (λ leg. is_among symbols leg.terms.symbol ≡ true) legs
  may_be [] legs all = inl refl
  may_be (known ∷ rest) legs all = inr all

  by_symbol : (leg : Routed) → symbol_excess limits leg ≡ None → may_order limits.symbols leg.terms.symbol ≡ true
  by_symbol leg e = un_not (may_order limits.symbols leg.terms.symbol) (not_refused _ _ e)

  within : (placed : Dollars) (legs : List Routed) → first_excess limits (with_sweep placed legs) legs ≡ None
      → IsWithin limits placed legs
  unfolding first_excess
  within placed legs e =
      let day = with_sweep placed legs in
      let shares = first_of (shares_excess limits) legs in
      let dollars = first_of (dollars_excess limits) legs in
      let sweep = over_sweep (sweep_money legs) limits.sweep_dollars in
      let today = over_day day limits.day_dollars in
      let symbols = first_of (symbol_excess limits) legs in
      let rest_4 = none_second shares (dollars or_then (sweep or_then (today or_then symbols))) e in
      let rest_3 = none_second dollars (sweep or_then (today or_then symbols)) rest_4 in
      let rest_2 = none_second sweep (today or_then symbols) rest_3 in
      let all_shares = each (shares_excess limits) Shares by_shares legs (none_first shares _ e) in
      let all_dollars = each (dollars_excess limits) Dollared by_dollars legs (none_first dollars _ rest_4) in
      record {
        desk = both Shares Dollared (IsLegWithin limits.leg)
            (λ leg s d. record { shares = s.0; dollars = d.0 }) legs all_shares all_dollars;
        venues = both Shares Dollared (λ leg. IfSome (own_of leg) (λ own. IsLegWithin own leg))
            (λ leg s d. own_within (own_of leg) leg s.1 d.1) legs all_shares all_dollars;
        sweep = fits_sweep legs limits.sweep_dollars (none_first sweep _ rest_3);
        day = fits_day day limits.day_dollars (none_first today _ rest_2);
        symbols = may_be limits.symbols legs
            (each (symbol_excess limits) (λ leg. may_order limits.symbols leg.terms.symbol ≡ true) by_symbol legs
            (none_second today symbols rest_2));
      }

un_over : (excess : Option Excess) (day now : Dollars) → unless_over excess day ≡ Ok now → excess ≡ None
un_over None day now e = refl
un_over (Some over) day now e = absurd cc

pub law : (limits : LimitParts) (placed : Dollars) (legs : List Routed) (day : Dollars) → judged limits placed legs ≡ Ok day
    → IsWithin limits placed legs
law limits placed legs day e =
    within limits placed legs
    (un_over (first_excess limits (with_sweep placed legs) legs) (with_sweep placed legs) day e)

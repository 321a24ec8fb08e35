-- What a sweep that is within the limits has, in the words of the limits.
use Rattle.std.specs.Prelude.{◌≡◌, ◌⊎◌, ◌+◌, ◌*◌, ◌≤◌, true, List, [], IfSome, slice_get}
use Rattle.std.specs.List.{All}
use Rattle.leg.specs.declared.sweep.Routed.{Routed}
use Rattle.order_limits.specs.declared.dollars.Dollars.{Dollars}
use Rattle.order_limits.specs.declared.limits.LegLimits.{LegLimits}
use Rattle.order_limits.specs.Limits.{LimitParts, is_among}
use Rattle.order_limits.specs.Money.{leg_amount, sweep_amount}

-- a leg is within these limits, in shares and in dollars
pub record IsLegWithin (limits : LegLimits) (leg : Routed) : Type 0 where
  pub shares : IfSome limits.shares (λ most. leg.terms.shares ≤ most)
  pub dollars : IfSome limits.dollars (λ most. leg_amount leg ≤ most * 10_000)

-- a sweep of these legs is within every limit, on a day of which so much is placed
pub record IsWithin (limits : LimitParts) (placed : Dollars) (legs : List Routed) : Type 0 where
  pub desk : All (IsLegWithin limits.leg) legs
  pub venues : All (λ leg. IfSome (slice_get limits.venues leg.venue) (λ own. IsLegWithin own leg)) legs
  pub sweep : IfSome limits.sweep_dollars (λ most. sweep_amount legs ≤ most * 10_000)
  pub day : IfSome limits.day_dollars (λ most. placed.ten_thousandths + sweep_amount legs ≤ most * 10_000)
  pub symbols : (limits.symbols ≡ []) ⊎ All (λ leg. is_among limits.symbols leg.terms.symbol ≡ true) legs

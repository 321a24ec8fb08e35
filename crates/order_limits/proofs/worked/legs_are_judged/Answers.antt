use Rattle.std.proofs.Common.{refl}
use Rattle.order_limits.specs.Limits.{first_excess}
use Rattle.order_limits.proofs.worked.legs_are_judged.Goals as goal

pub returns : goal.returns
unfolding first_excess
returns c = record {
  at_shares = refl;
  above_shares = refl;
  at_the_venue = refl;
  above_the_venue = refl;
  at_dollars = refl;
  above_dollars = refl;
  shares_come_first = refl;
}

use Rattle.std.proofs.Common.{refl}
use Rattle.order_limits.specs.Limits.{first_excess}
use Rattle.order_limits.proofs.worked.sweeps_are_judged.Goals as goal

pub returns : goal.returns
unfolding first_excess
returns c = record {
  at_limit = refl;
  above_limit = refl;
}

use Rattle.order_limits.proofs.Within.{law}
use Rattle.order_limits.proofs.laws.what_is_over_none_is_within_each.Goals as goal

pub returns : goal.returns
returns c = law

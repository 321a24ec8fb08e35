use Rattle.std.proofs.Common.{◌≡◌}
use Rattle.day_rules.specs.Orders.{first_failing, is_settled_at}
use Rattle.day_rules.proofs.order_rules.first_doubt_of.Given as goal

abbrev pub invariant-loop-place : goal.invariant-loop-place
invariant-loop-place l = l.found ≡ first_failing (is_settled_at l.watch) l.place

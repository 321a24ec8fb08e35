use Rattle.std.proofs.Common.{◌≡◌}
use Rattle.day_rules.specs.Orders.{first_failing, in_order_at}
use Rattle.day_rules.proofs.order_rules.first_out_of_order.Given as goal

abbrev pub invariant-loop-place : goal.invariant-loop-place
invariant-loop-place l = l.found ≡ first_failing (in_order_at l.desk l.venue l.day) l.place

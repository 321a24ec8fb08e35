use Rattle.std.proofs.Common.{◌≡◌}
use Rattle.day_rules.specs.Orders.{taken_upto}
use Rattle.day_rules.proofs.order_rules.taken_upto.Given as goal

abbrev pub invariant-loop-place : goal.invariant-loop-place
invariant-loop-place l = l.count ≡ taken_upto l.watch l.place

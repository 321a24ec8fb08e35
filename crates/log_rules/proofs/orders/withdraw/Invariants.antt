use Rattle.std.proofs.Common.{◌≡◌}
use Rattle.log_rules.specs.Order.{withdrawn_by}
use Rattle.log_rules.proofs.Partly.{partly}
use Rattle.log_rules.proofs.orders.withdraw.Given as goal

abbrev pub invariant-loop-order : goal.invariant-loop-order
invariant-loop-order l = l.orders ≡ partly (withdrawn_by l.settled l.expected) l.order-index l.initial.orders

use Rattle.std.proofs.Common.{◌≡◌, ◌++◌, drop}
use Rattle.day_rules.specs.Orders.{pointed}
use Rattle.day_rules.proofs.order_rules.pointed.Given as goal

abbrev pub invariant-loop-byte : goal.invariant-loop-byte
invariant-loop-byte l = pointed l.text ≡ l.pointed.items ++ pointed (drop l.byte-index l.text)

use Rattle.std.proofs.Common.{◌≡◌, ◌*◌, ◌≤◌, take}
use Rattle.order_limits.specs.Money.{sweep_amount}
use Rattle.order_limits.proofs.money.sweep_money.Given as goal

abbrev pub invariant-loop-leg : goal.invariant-loop-leg
invariant-loop-leg l = record {
  sum : l.sum ≡ sweep_amount (take l.leg-index l.legs);
  within : l.sum ≤ 10_000_000_000_000_000 * l.leg-index;
}

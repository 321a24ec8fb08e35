use Rattle.std.proofs.Common.{◌≡◌}
use Rattle.live_load.specs.Sweeps.{orders_to}
use Rattle.live_load.proofs.order.one_sweep.Given as goal

abbrev pub invariant-loop-number : goal.invariant-loop-number
invariant-loop-number l = l.legs.items ≡ orders_to l.number

use Rattle.std.proofs.Common.{◌≡◌, drop}
use Rattle.order_limits.specs.Limits.{first_of, dollars_excess}
use Rattle.order_limits.proofs.limits.OrderLimits.first_by_dollars.Given as goal

abbrev pub invariant-loop-leg : goal.invariant-loop-leg
invariant-loop-leg l =
    first_of (dollars_excess l.self) l.legs ≡ first_of (dollars_excess l.self) (drop l.leg-index l.legs)

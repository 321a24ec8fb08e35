use Rattle.std.proofs.Common.{◌≡◌}
use Rattle.leg_worth.specs.Kept.{worth_at}
use Rattle.leg_worth.specs.Worth.{capped, worth_below}
use Rattle.leg_worth.proofs.worths.Worths.sweep.Given as goal

-- the legs so far come to the sum
abbrev pub invariant-loop-before : goal.invariant-loop-before
invariant-loop-before l = l.sum ≡ capped (worth_below (worth_at l.self) l.number l.before)

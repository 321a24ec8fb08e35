use Rattle.std.proofs.Common.{◌≡◌}
use Rattle.exec_collector.specs.Day.{disputed_at, disputed_below}
use Rattle.exec_collector.proofs.disputed.Disputed.sweep.Given as goal

-- the legs so far come to the sum
abbrev pub invariant-loop-before : goal.invariant-loop-before
invariant-loop-before l = l.sum ≡ disputed_below (disputed_at l.self) l.number l.before

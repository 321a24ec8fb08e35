use Rattle.std.proofs.Common.{◌≡◌}
use Rattle.log_legs.specs.LegLine.{sums_of}
use Rattle.log_legs.proofs.lines.sums_of.Given as goal

abbrev pub invariant-loop-place : goal.invariant-loop-place
invariant-loop-place l = l.sums.by_number.entries ≡ sums_of l.watch l.place

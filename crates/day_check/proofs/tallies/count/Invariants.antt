use Rattle.std.proofs.Common.{◌≡◌}
use Rattle.day_check.specs.Tallies.{tallied_upto}
use Rattle.day_check.proofs.tallies.count.Given as goal

abbrev pub invariant-loop-place : goal.invariant-loop-place
invariant-loop-place l = l.tallies ≡ tallied_upto l.place l.verdicts l.initial.tallies

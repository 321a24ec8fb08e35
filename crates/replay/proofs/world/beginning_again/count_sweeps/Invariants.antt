use Rattle.std.proofs.Common.{◌≡◌, ◌≤◌, ◌+◌, length, drop}
use Rattle.sweep_release.specs.Kept.{released_sweeps}
use Rattle.replay.proofs.world.beginning_again.count_sweeps.Given as goal

abbrev pub invariant-loop-entry : goal.invariant-loop-entry
invariant-loop-entry l = record {
  sum : l.count + length (released_sweeps (drop l.entry-index l.history)) ≡ length (released_sweeps l.history);
  few : l.count ≤ l.entry-index;
}

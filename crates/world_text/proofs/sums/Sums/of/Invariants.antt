use Rattle.std.proofs.Common.{◌≡◌, ◌≤◌, suc, length, drop}
use Rattle.std.specs.List.{All}
use Rattle.sweep_release.specs.Kept.{released_sweeps}
use Rattle.world_text.specs.Summary.{sums_after, sums_of}
use Rattle.world_text.proofs.sums.Sums.of.Given as goal

abbrev pub invariant-loop-entry : goal.invariant-loop-entry
invariant-loop-entry g l = record {
  passed : l.number ≤ l.entry-index;
  sums : sums_after l.world (suc l.number) l.sums (released_sweeps (drop l.entry-index l.history)) ≡ sums_of l.world;
  few_legs : All (λ legs. length legs ≤ 32) (released_sweeps (drop l.entry-index l.history));
}

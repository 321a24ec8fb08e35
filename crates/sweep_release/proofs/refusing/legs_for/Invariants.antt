use Rattle.std.proofs.Common.{◌≡◌, ◌+◌, ◌≤◌, drop}
use Rattle.sweep_release.specs.Desk.{count_to}
use Rattle.sweep_release.proofs.refusing.legs_for.Given as goal

abbrev pub invariant-loop-routed : goal.invariant-loop-routed
invariant-loop-routed l = record {
  rest : l.count + count_to l.venue (drop l.routed-index l.legs) ≡ count_to l.venue l.legs;
  few : l.count ≤ l.routed-index;
}

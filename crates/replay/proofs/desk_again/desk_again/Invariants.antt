use Rattle.std.proofs.Common.{◌≡◌, ◌++◌, length, take, drop}
use Rattle.sweep_release.specs.Kept.{released_sweeps}
use Rattle.replay.specs.Ruling.{IsOpenDesk}
use Rattle.replay.proofs.desk_again.desk_again.Given as goal

abbrev pub invariant-loop-entry : goal.invariant-loop-entry
invariant-loop-entry l = record {
  sweeps : l.desk.desk.sweeps ++ take l.left (released_sweeps (drop l.entry-index l.before.history))
      ≡ take l.fn.kept (released_sweeps l.before.history);
  venues : length l.desk.desk.venues ≡ length l.before.desk.venues;
  unshut : IsOpenDesk l.desk.desk;
}

use Rattle.std.proofs.Common.{◌≡◌, ◌+◌, suc, length}
use Rattle.desk_serve.specs.Shown.{AreBooked}
use Rattle.desk_serve.proofs.shown.sweeps_behind.Given as goal

abbrev pub invariant-loop-before : goal.invariant-loop-before
invariant-loop-before g l = (l.after + length l.sweeps.items ≡ l.before) × AreBooked (suc l.after) l.sweeps.items

use Rattle.std.proofs.Common.{◌≡◌}
use Rattle.day_restart.proofs.restored.lower_all.Given as goal

abbrev pub invariant-loop-start : goal.invariant-loop-start
invariant-loop-start g l = l.desk.desk.sweeps ≡ l.initial.desk.desk.sweeps

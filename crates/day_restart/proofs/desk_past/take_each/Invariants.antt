use Rattle.std.specs.List.{AllZip}
use Rattle.session_worker.specs.Restoring.{TakesMore}
use Rattle.day_restart.proofs.desk_past.take_each.Given as goal

abbrev pub invariant-loop-place : goal.invariant-loop-place
invariant-loop-place g l = AllZip TakesMore l.initial.starts l.starts

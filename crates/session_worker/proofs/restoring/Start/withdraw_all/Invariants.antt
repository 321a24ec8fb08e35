use Rattle.std.proofs.Common.{take}
use Rattle.session_worker.specs.Restoring.{AsksFor}
use Rattle.session_worker.proofs.restoring.Start.withdraw_all.Given as goal

abbrev pub invariant-loop-id : goal.invariant-loop-id
invariant-loop-id g l = AsksFor (take l.id-index l.id-items) l.initial.self l.self

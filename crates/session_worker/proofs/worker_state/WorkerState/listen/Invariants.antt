use Rattle.std.specs.Prelude.{Bool}
use Rattle.session_worker.specs.Linking.{Heeds}
use Rattle.session_worker.proofs.worker_state.WorkerState.listen.Given as goal

abbrev pub invariant-loop : goal.invariant-loop
invariant-loop g l = (held : Bool) → Heeds (g.D.Dialect.wording l.dialect) held l.fn.self l.self

use Rattle.std.specs.Prelude.{false}
use Rattle.session_worker.specs.Linking.{Heeds}
use Rattle.session_worker.proofs.worker_state.WorkerState.send_some.Given as goal

abbrev pub invariant-loop : goal.invariant-loop
invariant-loop g l = Heeds (g.D.Dialect.wording l.dialect) false l.fn.self l.self

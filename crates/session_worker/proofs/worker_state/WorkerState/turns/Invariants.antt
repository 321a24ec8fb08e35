use Rattle.session_worker.specs.Linking.{Does}
use Rattle.session_worker.proofs.worker_state.WorkerState.turns.Given as goal

abbrev pub invariant-loop : goal.invariant-loop
invariant-loop g l = Does (g.D.Dialect.wording l.dialect) l.initial.self l.self

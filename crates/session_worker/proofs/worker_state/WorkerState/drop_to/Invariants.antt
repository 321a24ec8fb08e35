use Rattle.session_worker.specs.Linking.{Drains}
use Rattle.session_worker.proofs.worker_state.WorkerState.drop_to.Given as goal

abbrev pub invariant-loop : goal.invariant-loop
invariant-loop g l = Drains l.initial.self l.self

use Rattle.session_worker.proofs.Doing.{heeds_on, heeds_stay}
use Rattle.session_worker.proofs.worker_state.WorkerState.send_waiting.Goals as goal

pub returns-then-not-put_up : goal.returns-then-not-put_up
returns-then-not-put_up g c = heeds_stay _ _ _ _ c.put_up.ensures

pub returns : goal.returns
returns g c = heeds_on _ _ _ _ _ (heeds_stay _ _ _ _ c.put_up.ensures) c.send_some.ensures

use Rattle.session_worker.proofs.Doing.{heeds_none, heeds_on}
use Rattle.session_worker.proofs.worker_state.WorkerState.send_some.Goals as goal

pub loop-init : goal.loop-init
loop-init g c = heeds_none _ _ _

pub loop-preserved : goal.loop-preserved
loop-preserved g c = heeds_on _ _ _ _ _ c.loop.invariant c.send_next.ensures

pub returns-then-not-send_next : goal.returns-then-not-send_next
returns-then-not-send_next g c = heeds_on _ _ _ _ _ c.loop.invariant c.send_next.ensures

use Rattle.std.proofs.Common.{refl}
use Rattle.session_worker.proofs.Steps.{still_here}
use Rattle.session_worker.proofs.Doing.{drains_none, drains_on}
use Rattle.session_worker.proofs.worker_state.WorkerState.drain.Goals as goal

pub loop-init : goal.loop-init
loop-init g c = drains_none _ _ (still_here _) refl refl

pub loop-preserved : goal.loop-preserved
loop-preserved g c = drains_on _ _ _ c.loop.invariant c.drop_to.ensures

pub returns-then-not-drop_to : goal.returns-then-not-drop_to
returns-then-not-drop_to g c = drains_on _ _ _ c.loop.invariant c.drop_to.ensures

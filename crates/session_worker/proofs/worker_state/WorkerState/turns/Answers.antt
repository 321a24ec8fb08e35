use Rattle.session_worker.proofs.Doing.{does_none, does_on}
use Rattle.session_worker.proofs.worker_state.WorkerState.turns.Goals as goal

pub loop-init : goal.loop-init
loop-init g c = does_none _ _

pub loop-preserved : goal.loop-preserved
loop-preserved g c = does_on _ _ _ _ c.loop.invariant c.turn.ensures.does

pub loop-preserved-then-turn : goal.loop-preserved-then-turn
loop-preserved-then-turn g c = does_on _ _ _ _ c.loop.invariant c.turn.ensures.does

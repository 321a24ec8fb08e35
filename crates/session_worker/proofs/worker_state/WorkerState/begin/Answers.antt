use Rattle.session_worker.proofs.Doing.{heeds_none}
use Rattle.session_worker.proofs.worker_state.WorkerState.begin.Goals as goal

pub returns-in-LoggingOn : goal.returns-in-LoggingOn
returns-in-LoggingOn g c = heeds_none _ _ _

pub returns-in-Settling : goal.returns-in-Settling
returns-in-Settling g c = heeds_none _ _ _

pub returns-in-Closing : goal.returns-in-Closing
returns-in-Closing g c = heeds_none _ _ _

pub returns-in-LoggedOut : goal.returns-in-LoggedOut
returns-in-LoggedOut g c = heeds_none _ _ _

pub returns-in-Closed : goal.returns-in-Closed
returns-in-Closed g c = heeds_none _ _ _

use Rattle.session_core.proofs.Kept.{kept-receive}
use Rattle.session_core.proofs.Promised.{connect_writable, send_leg_writable, quiet_writable, silent_writable, close_writable}
use Rattle.session_core.proofs.laws.what_a_session_writes_can_be_written.Goals as goal

pub returns-clause-receive : goal.returns-clause-receive
returns-clause-receive c = λ s m is read. (kept-receive s m is read).written

pub returns-clause-connect : goal.returns-clause-connect
returns-clause-connect c = connect_writable

pub returns-clause-send_leg : goal.returns-clause-send_leg
returns-clause-send_leg c = send_leg_writable

pub returns-clause-quiet : goal.returns-clause-quiet
returns-clause-quiet c = quiet_writable

pub returns-clause-silent : goal.returns-clause-silent
returns-clause-silent c = silent_writable

pub returns-clause-close : goal.returns-clause-close
returns-clause-close c = close_writable

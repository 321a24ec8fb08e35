use Rattle.session_core.proofs.Called.{connect_keeps, send_leg_keeps, confirm_keeps, quiet_keeps, silent_keeps, close_keeps, malformed_keeps, broken_keeps, abandon_keeps}
use Rattle.session_core.proofs.laws.other_calls_keep_the_legs.Goals as goal

pub returns-clause-connect : goal.returns-clause-connect
returns-clause-connect c = connect_keeps

pub returns-clause-send_leg : goal.returns-clause-send_leg
returns-clause-send_leg c = send_leg_keeps

pub returns-clause-confirm : goal.returns-clause-confirm
returns-clause-confirm c = confirm_keeps

pub returns-clause-quiet : goal.returns-clause-quiet
returns-clause-quiet c = quiet_keeps

pub returns-clause-silent : goal.returns-clause-silent
returns-clause-silent c = silent_keeps

pub returns-clause-close : goal.returns-clause-close
returns-clause-close c = close_keeps

pub returns-clause-malformed : goal.returns-clause-malformed
returns-clause-malformed c = malformed_keeps

pub returns-clause-broken : goal.returns-clause-broken
returns-clause-broken c = broken_keeps

pub returns-clause-abandon : goal.returns-clause-abandon
returns-clause-abandon c = abandon_keeps

use Rattle.session_core.proofs.Called.{closed-receive, closed-connect, closed-send_leg, closed-quiet, closed-silent, closed-close, closed-malformed, closed-broken, closed-confirm}
use Rattle.session_core.proofs.laws.a_closed_session_is_over.Goals as goal

pub returns-clause-receive : goal.returns-clause-receive
returns-clause-receive c = λ s m closed. closed-receive s closed m

pub returns-clause-connect : goal.returns-clause-connect
returns-clause-connect c = λ s closed. closed-connect s closed

pub returns-clause-send_leg : goal.returns-clause-send_leg
returns-clause-send_leg c = λ s ordinal leg closed. closed-send_leg s closed ordinal leg

pub returns-clause-quiet : goal.returns-clause-quiet
returns-clause-quiet c = closed-quiet

pub returns-clause-silent : goal.returns-clause-silent
returns-clause-silent c = closed-silent

pub returns-clause-close : goal.returns-clause-close
returns-clause-close c = closed-close

pub returns-clause-malformed : goal.returns-clause-malformed
returns-clause-malformed c = closed-malformed

pub returns-clause-broken : goal.returns-clause-broken
returns-clause-broken c = closed-broken

pub returns-clause-confirm : goal.returns-clause-confirm
returns-clause-confirm c = closed-confirm

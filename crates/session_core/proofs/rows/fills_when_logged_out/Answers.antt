use Rattle.std.proofs.Common.{refl}
use Rattle.std.specs.Fmt.{digits}
use Rattle.session_core.proofs.rows.fills_when_logged_out.Goals as goal

pub returns-clause-phase : goal.returns-clause-phase
unfolding digits
returns-clause-phase c = refl

pub returns-clause-test : goal.returns-clause-test
unfolding digits
returns-clause-test c = refl

pub returns-clause-ahead : goal.returns-clause-ahead
unfolding digits
returns-clause-ahead c = refl

pub returns-clause-resend : goal.returns-clause-resend
unfolding digits
returns-clause-resend c = refl

pub returns-clause-quiet : goal.returns-clause-quiet
unfolding digits
returns-clause-quiet c = refl

pub returns-clause-silent : goal.returns-clause-silent
unfolding digits
returns-clause-silent c = refl

pub returns-clause-done : goal.returns-clause-done
unfolding digits
returns-clause-done c = refl

pub returns-clause-broken : goal.returns-clause-broken
unfolding digits
returns-clause-broken c = refl

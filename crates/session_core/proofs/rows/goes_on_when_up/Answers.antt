use Rattle.std.proofs.Common.{refl}
use Rattle.std.specs.Fmt.{digits}
use Rattle.session_core.proofs.rows.goes_on_when_up.Goals as goal

pub returns-clause-resend_of_settled : goal.returns-clause-resend_of_settled
unfolding digits
returns-clause-resend_of_settled c = refl

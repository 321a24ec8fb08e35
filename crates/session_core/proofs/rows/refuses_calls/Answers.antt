use Rattle.std.proofs.Common.{refl}
use Rattle.std.specs.Fmt.{digits}
use Rattle.session_core.proofs.rows.refuses_calls.Goals as goal

pub returns-clause-send_again : goal.returns-clause-send_again
unfolding digits
returns-clause-send_again c = refl

pub returns-clause-send_with_no_number : goal.returns-clause-send_with_no_number
unfolding digits
returns-clause-send_with_no_number c = refl

pub returns-clause-close_with_no_number : goal.returns-clause-close_with_no_number
unfolding digits
returns-clause-close_with_no_number c = refl

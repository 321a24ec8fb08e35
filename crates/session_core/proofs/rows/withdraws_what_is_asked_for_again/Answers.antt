use Rattle.std.proofs.Common.{refl}
use Rattle.std.specs.Fmt.{digits}
use Rattle.session_core.proofs.rows.withdraws_what_is_asked_for_again.Goals as goal

pub returns-clause-ends : goal.returns-clause-ends
unfolding digits
returns-clause-ends c = refl

pub returns-clause-withdrawn : goal.returns-clause-withdrawn
unfolding digits
returns-clause-withdrawn c = refl

pub returns-clause-filled : goal.returns-clause-filled
unfolding digits
returns-clause-filled c = refl

use Rattle.std.proofs.Common.{refl}
use Rattle.std.specs.Fmt.{digits}
use Rattle.session_core.proofs.rows.is_told_the_next_number.Goals as goal

pub returns-clause-settled : goal.returns-clause-settled
unfolding digits
returns-clause-settled c = refl

pub returns-clause-filled : goal.returns-clause-filled
unfolding digits
returns-clause-filled c = refl

pub returns-clause-taken : goal.returns-clause-taken
unfolding digits
returns-clause-taken c = refl

pub returns-clause-not_chosen : goal.returns-clause-not_chosen
unfolding digits
returns-clause-not_chosen c = refl

use Rattle.std.proofs.Common.{refl}
use Rattle.std.specs.Fmt.{digits}
use Rattle.session_core.proofs.rows.keeps_alive_and_closes.Goals as goal

pub returns-clause-silent : goal.returns-clause-silent
unfolding digits
returns-clause-silent c = refl

pub returns-clause-closing : goal.returns-clause-closing
unfolding digits
returns-clause-closing c = refl

pub returns-clause-logged_out : goal.returns-clause-logged_out
unfolding digits
returns-clause-logged_out c = refl

pub returns-clause-asked_before : goal.returns-clause-asked_before
unfolding digits
returns-clause-asked_before c = refl

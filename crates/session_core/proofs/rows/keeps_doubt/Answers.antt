use Rattle.std.proofs.Common.{refl}
use Rattle.std.specs.Fmt.{digits}
use Rattle.session_core.proofs.rows.keeps_doubt.Goals as goal

pub returns-clause-broken : goal.returns-clause-broken
unfolding digits
returns-clause-broken c = refl

pub returns-clause-abandoned : goal.returns-clause-abandoned
unfolding digits
returns-clause-abandoned c = refl

pub returns-clause-numbers_go_on : goal.returns-clause-numbers_go_on
unfolding digits
returns-clause-numbers_go_on c = refl

pub returns-clause-old_fence : goal.returns-clause-old_fence
unfolding digits
returns-clause-old_fence c = refl

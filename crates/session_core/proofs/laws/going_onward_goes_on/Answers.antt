use Rattle.session_core.proofs.Adding.{onward-refl, onward-trans}
use Rattle.session_core.proofs.laws.going_onward_goes_on.Goals as goal

pub returns-clause-reflexive : goal.returns-clause-reflexive
returns-clause-reflexive c = onward-refl

pub returns-clause-transitive : goal.returns-clause-transitive
returns-clause-transitive c = onward-trans

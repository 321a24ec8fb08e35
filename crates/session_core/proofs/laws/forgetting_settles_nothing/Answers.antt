use Rattle.session_core.proofs.Forgotten.{forgetting_settles_nothing, only_forgetting_ends_so}
use Rattle.session_core.proofs.laws.forgetting_settles_nothing.Goals as goal

pub returns-clause-settles : goal.returns-clause-settles
returns-clause-settles c = forgetting_settles_nothing

pub returns-clause-ends : goal.returns-clause-ends
returns-clause-ends c = only_forgetting_ends_so

use Rattle.resend.proofs.Later.{later-refl, later-trans}
use Rattle.resend.proofs.laws.later_logs_follow_one_another.Goals as goal

pub returns-clause-reflexive : goal.returns-clause-reflexive
returns-clause-reflexive c = later-refl

pub returns-clause-transitive : goal.returns-clause-transitive
returns-clause-transitive c = later-trans

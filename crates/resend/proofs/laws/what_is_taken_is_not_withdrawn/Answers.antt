use Rattle.resend.proofs.Later.{withdraws_none-take_below}
use Rattle.resend.proofs.Settled.{since-take_below}
use Rattle.resend.proofs.laws.what_is_taken_is_not_withdrawn.Goals as goal

pub returns-clause-stays : goal.returns-clause-stays
returns-clause-stays c = withdraws_none-take_below

pub returns-clause-names_none : goal.returns-clause-names_none
returns-clause-names_none c = since-take_below

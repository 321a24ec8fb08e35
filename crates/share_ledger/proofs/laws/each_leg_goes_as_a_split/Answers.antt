use Rattle.share_ledger.proofs.LegSteps.{steps-new, steps-apply, steps-withdraw}
use Rattle.share_ledger.proofs.laws.each_leg_goes_as_a_split.Goals as goal

pub returns-clause-opened : goal.returns-clause-opened
returns-clause-opened c = steps-new

pub returns-clause-apply : goal.returns-clause-apply
returns-clause-apply c = steps-apply

pub returns-clause-withdraw : goal.returns-clause-withdraw
returns-clause-withdraw c = steps-withdraw

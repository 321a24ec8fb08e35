use Rattle.share_ledger.proofs.Outcomes.{others-open_sweep, others-withdraw, others-apply}
use Rattle.share_ledger.proofs.laws.other_legs_keep_their_shares.Goals as goal

pub returns-clause-open_sweep : goal.returns-clause-open_sweep
returns-clause-open_sweep c = others-open_sweep

pub returns-clause-withdraw : goal.returns-clause-withdraw
returns-clause-withdraw c = others-withdraw

pub returns-clause-apply : goal.returns-clause-apply
returns-clause-apply c = others-apply

use Rattle.resend.proofs.Settled.{settled-no_doubt, since-settled}
use Rattle.resend.proofs.laws.settling_leaves_no_doubt.Goals as goal

pub returns-clause-none_in_doubt : goal.returns-clause-none_in_doubt
returns-clause-none_in_doubt c = settled-no_doubt

pub returns-clause-withdrawn : goal.returns-clause-withdrawn
returns-clause-withdrawn c = since-settled

use Rattle.line_restart.proofs.Missed.{withdrawn_stays_over}
use Rattle.line_restart.proofs.laws.what_is_withdrawn_stays.Goals as goal

pub returns : goal.returns
returns c = withdrawn_stays_over

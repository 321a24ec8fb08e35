use Rattle.line_restart.proofs.Missed.{never_accepted_over}
use Rattle.line_restart.proofs.laws.what_is_withdrawn_is_never_accepted.Goals as goal

pub returns : goal.returns
returns c = never_accepted_over

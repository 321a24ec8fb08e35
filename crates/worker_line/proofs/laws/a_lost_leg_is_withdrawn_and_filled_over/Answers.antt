use Rattle.worker_line.proofs.Example.{is_filled_over}
use Rattle.worker_line.proofs.laws.a_lost_leg_is_withdrawn_and_filled_over.Goals as goal

pub returns : goal.returns
returns c = is_filled_over

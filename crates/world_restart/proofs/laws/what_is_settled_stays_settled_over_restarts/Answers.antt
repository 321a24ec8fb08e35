use Rattle.world_restart.proofs.StaysOver.{settled_stays_over}
use Rattle.world_restart.proofs.laws.what_is_settled_stays_settled_over_restarts.Goals as goal

pub returns : goal.returns
returns c = settled_stays_over

use Rattle.world_restart.proofs.DayHolds.{sweep_theorem_over_restarts}
use Rattle.world_restart.proofs.laws.the_sweep_theorem_holds_over_restarts.Goals as goal

pub returns : goal.returns
returns c = sweep_theorem_over_restarts

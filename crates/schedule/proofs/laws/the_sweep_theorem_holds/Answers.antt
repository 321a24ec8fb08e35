use Rattle.schedule.proofs.SweepHolds.{the_sweep_theorem}
use Rattle.schedule.proofs.laws.the_sweep_theorem_holds.Goals as goal

pub returns : goal.returns
returns c = the_sweep_theorem

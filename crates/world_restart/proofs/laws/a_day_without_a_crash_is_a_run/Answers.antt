use Rattle.world_restart.proofs.DayHolds.{day_without_a_crash}
use Rattle.world_restart.proofs.laws.a_day_without_a_crash_is_a_run.Goals as goal

pub returns : goal.returns
returns c = day_without_a_crash

use Rattle.worker_restart.proofs.DayOverLives.{the_day_over_lives}
use Rattle.worker_restart.proofs.laws.every_worker_of_an_audited_day_of_several_lives_is_safe.Goals as goal

pub returns : goal.returns
returns c = the_day_over_lives

use Rattle.schedule.proofs.SettledStays.{what_is_settled_stays}
use Rattle.schedule.proofs.laws.what_is_settled_stays_settled.Goals as goal

pub returns : goal.returns
returns c = what_is_settled_stays

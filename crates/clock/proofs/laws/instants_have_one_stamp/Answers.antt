use Rattle.clock.proofs.OneStamp.{one_stamp}
use Rattle.clock.proofs.laws.instants_have_one_stamp.Goals as goal

pub returns : goal.returns
returns c = one_stamp

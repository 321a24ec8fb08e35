use Rattle.std.proofs.Common.{refl}
use Rattle.std.specs.Fmt.{digits}
use Rattle.schedule.proofs.rows.told_that_none_is_lost.Goals as goal

pub returns : goal.returns
unfolding digits
returns c = refl

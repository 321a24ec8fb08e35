use Rattle.std.proofs.Common.{refl}
use Rattle.std.specs.Fmt.{digits}
use Rattle.schedule.proofs.rows.what_is_not_possible.Goals as goal

pub returns : goal.returns
unfolding digits
returns c = refl

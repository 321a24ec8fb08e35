use Rattle.std.proofs.Common.{refl}
use Rattle.std.specs.Fmt.{digits}
use Rattle.schedule.proofs.rows.told_the_next_number.Goals as goal

pub returns : goal.returns
unfolding digits
returns c = refl

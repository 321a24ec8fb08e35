use Rattle.std.proofs.Common.{refl}
use Rattle.std.specs.Fmt.{digits}
use Rattle.schedule.proofs.rows.few_numbers.Goals as goal

pub returns : goal.returns
unfolding digits
returns c = refl

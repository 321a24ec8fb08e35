use Rattle.std.proofs.Common.{refl}
use Rattle.std.specs.Fmt.{digits}
use Rattle.schedule.proofs.rows.a_fill_and_a_cancel.Goals as goal

pub returns : goal.returns
unfolding digits
returns c = refl

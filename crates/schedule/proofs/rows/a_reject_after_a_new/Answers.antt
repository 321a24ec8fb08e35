use Rattle.std.proofs.Common.{refl}
use Rattle.std.specs.Fmt.{digits}
use Rattle.schedule.proofs.rows.a_reject_after_a_new.Goals as goal

pub returns : goal.returns
unfolding digits
returns c = refl

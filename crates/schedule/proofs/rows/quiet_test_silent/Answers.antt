use Rattle.std.proofs.Common.{refl}
use Rattle.std.specs.Fmt.{digits}
use Rattle.schedule.proofs.rows.quiet_test_silent.Goals as goal

pub returns : goal.returns
unfolding digits
returns c = refl

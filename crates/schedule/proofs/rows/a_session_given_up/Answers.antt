use Rattle.std.proofs.Common.{refl}
use Rattle.std.specs.Fmt.{digits}
use Rattle.schedule.proofs.rows.a_session_given_up.Goals as goal

pub returns : goal.returns
unfolding digits
returns c = refl

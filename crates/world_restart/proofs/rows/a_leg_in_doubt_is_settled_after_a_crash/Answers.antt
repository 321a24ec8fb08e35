use Rattle.std.proofs.Common.{refl}
use Rattle.std.specs.Fmt.{digits}
use Rattle.world_restart.proofs.rows.a_leg_in_doubt_is_settled_after_a_crash.Goals as goal

pub returns : goal.returns
unfolding digits
returns c = refl

use Rattle.std.proofs.Common.{refl}
use Rattle.std.specs.Fmt.{digits}
use Rattle.world_restart.proofs.rows.a_sweep_is_forgotten.Goals as goal

pub returns : goal.returns
unfolding digits
returns c = refl

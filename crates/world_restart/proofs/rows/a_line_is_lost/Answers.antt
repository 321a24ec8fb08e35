use Rattle.std.proofs.Common.{refl}
use Rattle.std.specs.Fmt.{digits}
use Rattle.world_restart.proofs.rows.a_line_is_lost.Goals as goal

pub returns : goal.returns
unfolding digits
returns c = refl

use Rattle.std.proofs.Common.{refl}
use Rattle.std.specs.Fmt.{digits}
use Rattle.world_restart.proofs.rows.an_order_is_lost_with_its_line.Goals as goal

pub returns : goal.returns
unfolding digits
returns c = refl

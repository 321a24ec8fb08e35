use Rattle.std.proofs.Common.{refl}
use Rattle.std.specs.Fmt.{digits}
use Rattle.schedule.proofs.rows.frame_of_a_bust.Goals as goal

pub returns : goal.returns
unfolding digits
returns c = refl

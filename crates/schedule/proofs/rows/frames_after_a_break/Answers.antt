use Rattle.std.proofs.Common.{refl}
use Rattle.std.specs.Fmt.{digits}
use Rattle.schedule.proofs.rows.frames_after_a_break.Goals as goal

pub returns : goal.returns
unfolding digits
returns c = refl

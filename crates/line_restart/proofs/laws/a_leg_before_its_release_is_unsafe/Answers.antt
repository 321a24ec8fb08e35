use Rattle.line_restart.proofs.UnsafeStarts.{release_is_lost}
use Rattle.line_restart.proofs.laws.a_leg_before_its_release_is_unsafe.Goals as goal

pub returns : goal.returns
returns c = release_is_lost

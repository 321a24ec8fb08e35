use Rattle.session_core.proofs.Kept.{kept-receive}
use Rattle.session_core.proofs.laws.gap_fills_spare_legs_in_doubt.Goals as goal

pub returns : goal.returns
returns c = λ s m is read. (kept-receive s m is read).spares

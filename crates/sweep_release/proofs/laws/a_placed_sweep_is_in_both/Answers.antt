use Rattle.sweep_release.proofs.Placing.{is_placed}
use Rattle.sweep_release.proofs.laws.a_placed_sweep_is_in_both.Goals as goal

pub returns : goal.returns
returns c = is_placed

use Rattle.sweep_release.proofs.Backlog.{counted-replay}
use Rattle.sweep_release.proofs.laws.released_legs_are_placed_or_left.Goals as goal

pub returns : goal.returns
returns c = counted-replay

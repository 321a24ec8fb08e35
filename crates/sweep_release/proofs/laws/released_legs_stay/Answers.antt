use Rattle.sweep_release.proofs.Lasting.{appends-replay}
use Rattle.sweep_release.proofs.laws.released_legs_stay.Goals as goal

pub returns : goal.returns
returns c = appends-replay

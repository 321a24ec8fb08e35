use Rattle.sweep_release.proofs.Lasting.{shut-replay}
use Rattle.sweep_release.proofs.laws.shut_gates_stay_shut.Goals as goal

pub returns : goal.returns
returns c = shut-replay

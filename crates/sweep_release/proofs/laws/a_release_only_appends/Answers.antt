use Rattle.sweep_release.proofs.Lasting.{released-release}
use Rattle.sweep_release.proofs.laws.a_release_only_appends.Goals as goal

pub returns-clause-legs : goal.returns-clause-legs
returns-clause-legs c = released-release

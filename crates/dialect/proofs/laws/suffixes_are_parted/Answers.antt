use Rattle.dialect.specs.Lemmas.NoJoined.{no_joined}
use Rattle.dialect.proofs.laws.suffixes_are_parted.Goals as goal

pub returns : goal.returns
returns c = no_joined

use Rattle.dialect.specs.Lemmas.WordedPresets.{plain_same, split_same, coded_same}
use Rattle.dialect.proofs.laws.presets_are_dialects.Goals as goal

pub returns-clause-plain : goal.returns-clause-plain
returns-clause-plain c = plain_same

pub returns-clause-split : goal.returns-clause-split
returns-clause-split c = split_same

pub returns-clause-coded : goal.returns-clause-coded
returns-clause-coded c = coded_same

use Rattle.dialect.specs.Lemmas.WordedLaws.{are_taken}
use Rattle.dialect.proofs.worded.WordedSpelling.id_text.Goals as goal

pub id_text-requires : goal.id_text-requires
id_text-requires c = (are_taken c.self.inside.words c.self.invariant).id

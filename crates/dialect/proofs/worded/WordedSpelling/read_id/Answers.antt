use Rattle.dialect.specs.Lemmas.WordedLaws.{are_taken}
use Rattle.dialect.proofs.worded.WordedSpelling.read_id.Goals as goal

pub read_id-requires : goal.read_id-requires
read_id-requires c = (are_taken c.self.inside.words c.self.invariant).id

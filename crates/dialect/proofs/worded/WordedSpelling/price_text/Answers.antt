use Rattle.dialect.specs.Lemmas.WordedLaws.{are_taken}
use Rattle.dialect.proofs.worded.WordedSpelling.price_text.Goals as goal

pub price_text-requires : goal.price_text-requires
price_text-requires c = (are_taken c.self.inside.words c.self.invariant).price

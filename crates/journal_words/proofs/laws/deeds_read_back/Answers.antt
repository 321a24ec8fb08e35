use Rattle.journal_words.proofs.DeedsBack.{deed_back}
use Rattle.journal_words.proofs.laws.deeds_read_back.Goals as goal

pub returns : goal.returns
returns c = deed_back

use Rattle.journal_words.proofs.AreLines.{deed_is_line}
use Rattle.journal_words.proofs.laws.deeds_are_lines.Goals as goal

pub returns : goal.returns
returns c = deed_is_line

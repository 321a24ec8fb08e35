use Rattle.journal_words.proofs.AreLines.{desk_is_line}
use Rattle.journal_words.proofs.laws.desk_deeds_are_lines.Goals as goal

pub returns : goal.returns
returns c = desk_is_line

use Rattle.journal_words.proofs.DeskBack.{desk_back}
use Rattle.journal_words.proofs.laws.desk_lines_read_back.Goals as goal

pub returns : goal.returns
returns c = desk_back

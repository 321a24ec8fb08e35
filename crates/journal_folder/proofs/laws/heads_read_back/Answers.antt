use Rattle.journal_folder.proofs.HeadBack.{head_back}
use Rattle.journal_folder.proofs.laws.heads_read_back.Goals as goal

pub returns : goal.returns
returns c = head_back

use Rattle.fix_text.proofs.Rewritten.{next_written}
use Rattle.fix_text.proofs.laws.written_is_read.Goals as goal

pub returns : goal.returns
returns c = next_written

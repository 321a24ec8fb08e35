use Rattle.fix_text.proofs.FrameTexts.{written_valid}
use Rattle.fix_text.proofs.laws.written_is_valid.Goals as goal

pub returns : goal.returns
returns c = written_valid

use Rattle.fix_text.proofs.Lengths.{frames_are_short}
use Rattle.fix_text.proofs.laws.written_frames_are_short.Goals as goal

pub returns : goal.returns
returns c = frames_are_short

use Rattle.fix_text.proofs.FrameTexts.{frame_unique, valid_unique}
use Rattle.fix_text.proofs.laws.frames_are_determined.Goals as goal

pub returns : goal.returns
returns c = record { front = frame_unique; fields = valid_unique }

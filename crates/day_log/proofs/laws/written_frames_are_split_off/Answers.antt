use Rattle.day_log.proofs.Frames.{frame_splits}
use Rattle.day_log.proofs.laws.written_frames_are_split_off.Goals as goal

pub returns : goal.returns
returns c = frame_splits

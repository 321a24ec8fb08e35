use Rattle.day_log.proofs.Heard.{frame_read_heard}
use Rattle.day_log.proofs.laws.heard_frames_are_noted.Goals as goal

pub returns : goal.returns
returns c = frame_read_heard

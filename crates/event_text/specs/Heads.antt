-- The connection and the number of a frame.
use Rattle.schedule.specs.World.{Frame}
use Rattle.event_text.specs.declared.frame_head.FrameHead.{FrameHead}

abbrev pub head_said : Frame → FrameHead
head_said frame = record { connection = frame.connection; number = frame.message.number }

use Rattle.std.proofs.Common.{length}
use Rattle.day_log.proofs.way.behind_frames.Given as goal

abbrev pub decreases-loop-head : goal.decreases-loop-head
decreases-loop-head l = length l.rest

use Rattle.std.proofs.Common.{length}
use Rattle.day_log.proofs.split.last_message.Given as goal

abbrev pub decreases-loop-count : goal.decreases-loop-count
decreases-loop-count l = length l.rest

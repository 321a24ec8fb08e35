use Rattle.std.proofs.Common.{length}
use Rattle.desk_lines.proofs.running.fn.take_all_lines.scope.Given as goal

abbrev pub decreases-loop-server : goal.decreases-loop-server
decreases-loop-server g l = length l.servers.items

use Rattle.std.proofs.Common.{length}
use Rattle.desk_threads.proofs.threads.fn.run_servers.scope.Given as goal

abbrev pub decreases-loop-exchange : goal.decreases-loop-exchange
decreases-loop-exchange g l = length l.exchanges.items

abbrev pub decreases-loop-server : goal.decreases-loop-server
decreases-loop-server g l = length l.servers.items

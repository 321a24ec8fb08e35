use Rattle.std.proofs.Common.{length}
use Rattle.release_lock.proofs.TakenLegs.{Checking}
use Rattle.release_lock.proofs.checking.check_queues.Given as goal

abbrev pub invariant-loop-end : goal.invariant-loop-end
invariant-loop-end g l =
    Checking g.L.Run.queues l.fn.locked.desk l.fn.ends.items l.place l.ends.items l.feeds.items

abbrev pub decreases-loop-end : goal.decreases-loop-end
decreases-loop-end g l = length l.ends.items

use Rattle.std.proofs.Common.{◌≡◌, ◌++◌, length}
use Rattle.session_worker.specs.Ends.{queues_of, seats_of}
use Rattle.session_worker.proofs.auditing.parted.Given as goal

abbrev pub invariant-loop-end : goal.invariant-loop-end
invariant-loop-end g l =
    (l.queues.items ++ queues_of l.ends.items ≡ queues_of l.fn.ends.items)
    × (l.seats.items ++ seats_of l.ends.items ≡ seats_of l.fn.ends.items)

abbrev pub decreases-loop-end : goal.decreases-loop-end
decreases-loop-end g l = length l.ends.items

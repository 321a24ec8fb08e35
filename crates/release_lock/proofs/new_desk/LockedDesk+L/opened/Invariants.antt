use Rattle.std.proofs.Common.{◌≤◌, vec_capacity}
use Rattle.release_lock.proofs.Opening.{Opening}
use Rattle.release_lock.proofs.new_desk.LockedDesk+L.opened.Given as goal

abbrev pub invariant-loop-number : goal.invariant-loop-number
invariant-loop-number g l =
    Opening g.L.Run.queues l.venues l.number l.rings.items l.feeds.items l.drains.items
    × (l.venues ≤ vec_capacity l.drains)

abbrev pub ghost-no_slips : goal.ghost-no_slips
ghost-no_slips g a = g.L.Run.slips

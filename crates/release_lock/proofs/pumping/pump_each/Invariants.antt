use Rattle.std.proofs.Common.{ℕ, Bool}
use Rattle.release_lock.specs.Locked.{Replays}
use Rattle.release_lock.specs.Queues.{AreMarks, PumpsEach}
use Rattle.release_lock.proofs.pumping.pump_each.Given as goal

abbrev pub invariant-loop-number : goal.invariant-loop-number
invariant-loop-number g l =
    ((named : ℕ → Bool) → AreMarks l.venues.marks named → PumpsEach named l.number l.fn.locked l.locked)
    × Replays l.locked

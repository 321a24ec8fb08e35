use Rattle.std.proofs.Common.{◌≡◌}
use Rattle.release_lock.specs.Held.{down_below}
use Rattle.release_lock.specs.Locked.{Replays}
use Rattle.release_lock.proofs.locked_desk.LockedDesk.lower_all.Given as goal

abbrev pub invariant-loop-number : goal.invariant-loop-number
invariant-loop-number g l = (l.self.desk ≡ down_below l.number l.fn.self.desk) × Replays l.self × Replays l.fn.self

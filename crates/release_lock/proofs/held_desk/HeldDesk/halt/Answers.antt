use Rattle.std.proofs.Common.{true}
use Rattle.release_lock.proofs.Holding.{keeps_halted}
use Rattle.release_lock.proofs.held_desk.HeldDesk.halt.Goals as goal

pub invariant_of-self : goal.invariant_of-self
invariant_of-self g c = (
  keeps_halted true c.self.inside.holds.paused c.self.inside.locked.desk c.lower_all.new.self.desk c.lower_all.ensures.down,
  c.lower_all.ensures.replays.1,
)

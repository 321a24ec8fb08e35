use Rattle.release_lock.proofs.Holding.{keeps_same, pumped_gates}
use Rattle.release_lock.proofs.held_desk.HeldDesk.pump.Goals as goal

pub invariant_of-self : goal.invariant_of-self
invariant_of-self g c =
    let holds = c.self.inside.holds in
    let old = c.self.inside.locked in
    let gates = pumped_gates c.args.venue old c.pump.new.self c.pump.ensures.desk in
    (keeps_same holds.halted holds.paused old.desk c.pump.new.self.desk gates c.self.invariant.0, c.pump.ensures.replays.1)

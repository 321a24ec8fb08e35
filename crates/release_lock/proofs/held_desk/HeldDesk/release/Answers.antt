use Rattle.release_lock.proofs.Holding.{keeps_same, released_gates}
use Rattle.release_lock.proofs.held_desk.HeldDesk.release.Goals as goal

pub invariant_of-self : goal.invariant_of-self
invariant_of-self g c =
    let holds = c.self.inside.holds in
    let old = c.self.inside.locked in
    let gates = released_gates _ c.args.sweep.legs old c.release.result c.release.new.self c.release.ensures.released in (
      keeps_same holds.halted holds.paused old.desk c.release.new.self.desk gates c.self.invariant.0,
      c.release.ensures.replays.1,
    )

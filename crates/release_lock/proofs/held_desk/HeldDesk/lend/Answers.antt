use Rattle.release_lock.proofs.Holding.{keeps_lowered}
use Rattle.release_lock.proofs.held_desk.HeldDesk.lend.Goals as goal

pub invariant_of-self : goal.invariant_of-self
invariant_of-self g c =
    let holds = c.self.inside.holds in
    let old = c.self.inside.locked in
    let lowers = c.requires.lowers old c.lend.result c.lend.new.self c.lend.ensures.call in
    (keeps_lowered holds.halted holds.paused old c.lend.new.self lowers c.self.invariant.0, c.lend.ensures.replays.1)

use Rattle.std.proofs.Common.{◌≡◌, length, false, sym, ap, ◌∙◌}
use Rattle.release_lock.specs.Held.{is_held}
use Rattle.release_lock.proofs.Holding.{keeps_raised}
use Rattle.release_lock.proofs.held_desk.HeldDesk.raise.Goals as goal

pub invariant_of-self : goal.invariant_of-self
invariant_of-self g c =
    let holds = c.self.inside.holds in
    let old = c.self.inside.locked in
    let venue = c.args.drain.now.venue in
    let free : is_held holds.halted holds.paused venue ≡ false =
    ap (is_held holds.halted holds.paused) (sym c.venue.ensures.value) ∙ (sym c.is_held.ensures ∙ c.if-is_held.false) in (
      keeps_raised holds.halted holds.paused old c.raise.new.self venue (length c.args.drain.now.popped) c.raise.result
          free c.raise.ensures.answer c.self.invariant.0,
      c.raise.ensures.replays.1,
    )

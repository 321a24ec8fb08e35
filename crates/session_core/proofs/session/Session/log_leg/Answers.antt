use Rattle.session_core.proofs.KeptOn.{kept-logged}
use Rattle.session_core.proofs.session.Session.log_leg.Goals as goal

pub invariant_of-self : goal.invariant_of-self
invariant_of-self c =
    let s = c.self.inside in
    kept-logged s.config s.log c.push_leg.new.self s.fences.items s.connection s.standing c.args.ordinal
    c.args.leg.now _
    c.self.invariant (rw (← c.self.view_is) at c.requires.up) (rw (← c.self.view_is) at c.requires.above)
    (rw (← c.self.view_is) at c.requires.left) c.push_leg.ensures

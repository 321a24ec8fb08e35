use Rattle.session_core.proofs.KeptOn.{kept-begun}
use Rattle.session_core.proofs.session.Session.begin.Goals as goal

pub invariant_of-self : goal.invariant_of-self
invariant_of-self c =
    let s = c.self.inside in
    kept-begun s.config s.log c.push_admin.new.self s.fences.items c.clear.new.self.items s.connection _ s.standing _
    c.self.invariant (rw (← c.self.view_is) at c.requires) c.push_admin.ensures c.next_number-logon_number.ensures
    c.clear.ensures.items

use Rattle.std.proofs.Common.{◌≡◌, true, subst, sym}
use Rattle.dressed_link.specs.Passing.{Passes}
use Rattle.dressed_link.proofs.Passing.{began, broke}
use Rattle.dressed_link.proofs.dresser.Dresser.dial.Goals as goal

pub returns-in_err-dial-clause-carries : goal.returns-in_err-dial-clause-carries
returns-in_err-dial-clause-carries g c =
    λ passes. broke _ _ _ _ _ _ _ passes c.clear.ensures.items c.in_err-dial.ensures.wire

pub returns-clause-carries : goal.returns-clause-carries
returns-clause-carries g c =
    let own = c.args.self.now in
    λ passes. subst (λ tolds. Passes own.dress true c.clear.new.self.items tolds (g.K.Link.wire c.dial.new.self))
    (sym c.dialled-self.ensures)
    (began own.dress own.is_up own.pending.items c.clear.new.self.items own.told.traffic _ _ passes
    c.clear.ensures.items c.in_ok-dial.ensures.wire)

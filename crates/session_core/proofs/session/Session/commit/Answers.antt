use Rattle.session_core.specs.Kept.{viewed}
use Rattle.session_core.proofs.KeptOn.{kept-committed}
use Rattle.session_core.proofs.session.Session.commit.Goals as goal

pub invariant_of-self-2 : goal.invariant_of-self-2
invariant_of-self-2 c =
    let s = c.self.inside in
    rw (
      c.spend.ensures,
      c.settle.ensures,
      c.keep.ensures,
      c.let_go.ensures.items,
      c.reserve.ensures.items,
      c.as_slice-lines.ensures.value,
    )
    (kept-committed s.log.max_number (viewed s.config s.log.entries s.fences.items s.connection s.standing)
    c.args.decision.now
    c.self.invariant (rw (← c.self.view_is) at c.requires))

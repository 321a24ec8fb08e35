use Rattle.std.proofs.Common.{◌≡◌, Bool, false, sym, subst}
use Rattle.std.specs.Prelude.{Option, MatchOption}
use Rattle.leg.specs.declared.placed_leg.PlacedLeg.{PlacedLeg}
use Rattle.dialect.specs.Wording.{Wording}
use Rattle.session_worker.specs.Linking.{WorkerStateParts, beside_shares, Hands, Sends}
use Rattle.session_worker.proofs.Steps.{hands_still}
use Rattle.session_worker.proofs.Doing.{state_of}
use Rattle.session_worker.proofs.worker_state.WorkerState.send.Goals as goal

pub returns-clause-sends : goal.returns-clause-sends
returns-clause-sends g c =
    let w : Wording = g.D.Dialect.wording c.args.dialect.now in
    let leg : PlacedLeg = c.in-Some.leg in
    let a : WorkerStateParts = state_of c.self.inside.io c.self.inside.takings c.self.inside.seat c.self.inside.withdrawn in
    let b : WorkerStateParts = state_of c.send.new.self c.self.inside.takings c.self.inside.seat c.self.inside.withdrawn in
    let d : WorkerStateParts = c.withdraw.new.self in
    let hands : Hands w leg false a.io b.io =
    subst (λ (sent : Bool). Hands w leg sent a.io b.io) c.if-send.false c.send.ensures in
    let sends : Sends w leg a d =
    record { sent = false; hands = hands_still w leg false a.io b.io d.io hands c.withdraw.ensures.io; seat = c.withdraw.ensures.seat } in
    subst (λ (next : Option PlacedLeg). MatchOption next
    ((d.io ≡ c.args.self.now.io) × (beside_shares d.seat ≡ beside_shares c.args.self.now.seat))
    (λ sent. Sends w sent c.args.self.now d)) (sym c.in-Some.is)
    (subst (λ (x : WorkerStateParts). Sends w leg x d) c.self.view_is sends)

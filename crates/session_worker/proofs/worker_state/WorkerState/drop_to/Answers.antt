use Rattle.std.proofs.Common.{◌≡◌, refl, subst, ◌∙◌}
use Rattle.std.specs.Prelude.{Option, MatchOption}
use Rattle.leg.specs.declared.placed_leg.PlacedLeg.{PlacedLeg}
use Rattle.session_worker.specs.Taking.{with_taken}
use Rattle.session_worker.specs.Linking.{WorkerStateParts, Drains}
use Rattle.session_worker.proofs.Steps.{still_here}
use Rattle.session_worker.proofs.Doing.{state_of, drains_none, drains_one, drains_on}
use Rattle.session_worker.proofs.worker_state.WorkerState.drop_to.Goals as goal

pub loop-init : goal.loop-init
loop-init g c = drains_none _ _ (still_here _) refl refl

pub loop-preserved : goal.loop-preserved
loop-preserved g c =
    let b : WorkerStateParts = c.loop.self in
    let k : WorkerStateParts = state_of c.self-in-loop.inside.io c.self-in-loop.inside.takings c.self-in-loop.inside.seat c.self-in-loop.inside.withdrawn in
    let d : WorkerStateParts = c.drop_leg.new.self in
    drains_on _ b d c.loop.invariant (subst (λ (x : WorkerStateParts). Drains x d) c.self-in-loop.view_is
    (drains_one k d c.in-Ok-Some.leg c.drop_leg.ensures.io
    (c.drop_leg.ensures.took ∙ subst (λ (next : Option PlacedLeg). MatchOption next
    (c.next_to.new.self ≡ k.took) (λ leg. c.next_to.new.self ≡ with_taken k.took leg)) c.in-Ok-Some.field-0-is c.in-Ok-Some.ensures)
    c.drop_leg.ensures.seat))

pub returns-in-Ok-None : goal.returns-in-Ok-None
returns-in-Ok-None g c =
    let b : WorkerStateParts = c.loop.self in
    let k : WorkerStateParts = state_of c.self-in-loop.inside.io c.self-in-loop.inside.takings c.self-in-loop.inside.seat c.self-in-loop.inside.withdrawn in
    let m : WorkerStateParts = state_of c.self-in-loop.inside.io c.next_to.new.self c.self-in-loop.inside.seat c.self-in-loop.inside.withdrawn in
    drains_on _ b m c.loop.invariant (subst (λ (x : WorkerStateParts). Drains x m) c.self-in-loop.view_is
    (drains_none k m (still_here k.io)
    (subst (λ (next : Option PlacedLeg). MatchOption next
    (c.next_to.new.self ≡ k.took) (λ leg. c.next_to.new.self ≡ with_taken k.took leg)) c.in-Ok-None.field-0-is c.in-Ok-None.ensures)
    refl))

pub returns-in-Err : goal.returns-in-Err
returns-in-Err g c =
    let b : WorkerStateParts = c.loop.self in
    let k : WorkerStateParts = state_of c.self-in-loop.inside.io c.self-in-loop.inside.takings c.self-in-loop.inside.seat c.self-in-loop.inside.withdrawn in
    let m : WorkerStateParts = state_of c.self-in-loop.inside.io c.next_to.new.self c.self-in-loop.inside.seat c.self-in-loop.inside.withdrawn in
    drains_on _ b m c.loop.invariant
    (subst (λ (x : WorkerStateParts). Drains x m) c.self-in-loop.view_is (drains_none k m (still_here k.io) c.in-Err.ensures refl))

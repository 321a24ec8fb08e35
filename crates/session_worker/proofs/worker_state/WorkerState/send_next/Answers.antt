use Rattle.std.proofs.Common.{false, refl, ap, subst, ◌∙◌}
use Rattle.dialect.specs.Wording.{Wording}
use Rattle.session_worker.specs.Linking.{WorkerStateParts, Heeds}
use Rattle.session_worker.proofs.Calling.{moves_broken}
use Rattle.session_worker.proofs.Doing.{state_of, heeds_moves, heeds_sent}
use Rattle.session_worker.proofs.worker_state.WorkerState.send_next.Goals as goal

pub returns-in-Ok : goal.returns-in-Ok
returns-in-Ok g c =
    let w : Wording = g.D.Dialect.wording c.args.dialect.now in
    let a : WorkerStateParts = state_of c.self.inside.io c.self.inside.takings c.self.inside.seat c.self.inside.withdrawn in
    let b : WorkerStateParts = state_of c.self.inside.io c.next_leg.new.takings c.self.inside.seat c.self.inside.withdrawn in
    let d : WorkerStateParts = c.send.new.self in
    let up = ap (λ (x : WorkerStateParts). x.io.session.phase) c.self.view_is ∙ c.requires in
    subst (λ (x : WorkerStateParts). Heeds w false x d) c.self.view_is
    (heeds_sent w a b d c.in-Ok.next up c.in-Ok.ensures refl refl c.send.ensures.sends c.send.ensures.took)

pub returns-in-Err : goal.returns-in-Err
returns-in-Err g c =
    let w : Wording = g.D.Dialect.wording c.args.dialect.now in
    let a : WorkerStateParts = state_of c.self.inside.io c.self.inside.takings c.self.inside.seat c.self.inside.withdrawn in
    let b : WorkerStateParts = state_of c.break_off.new.self c.next_leg.new.takings c.self.inside.seat c.self.inside.withdrawn in
    subst (λ (x : WorkerStateParts). Heeds w false x b) c.self.view_is
    (heeds_moves w false a b (moves_broken w a.io b.io c.break_off.ensures.session c.break_off.ensures.wire
    c.break_off.ensures.told) c.in-Err.ensures refl)

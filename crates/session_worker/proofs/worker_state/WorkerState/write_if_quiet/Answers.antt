use Rattle.std.proofs.Common.{refl, subst}
use Rattle.dialect.specs.Wording.{Wording}
use Rattle.session_worker.specs.Linking.{WorkerStateParts, Heeds}
use Rattle.session_worker.proofs.Doing.{state_of, heeds_moves, heeds_asked}
use Rattle.session_worker.proofs.worker_state.WorkerState.write_if_quiet.Goals as goal

pub returns-in-Some : goal.returns-in-Some
returns-in-Some g c =
    let w : Wording = g.D.Dialect.wording c.args.dialect.now in
    let a : WorkerStateParts = state_of c.self.inside.io c.self.inside.takings c.self.inside.seat c.self.inside.withdrawn in
    let b : WorkerStateParts = state_of c.on_quiet.new.self c.self.inside.takings c.self.inside.seat c.self.inside.withdrawn in
    let d : WorkerStateParts = c.carry_out.new.self in
    λ held. subst (λ (x : WorkerStateParts). Heeds w held x d) c.self.view_is
    (heeds_asked w held a b d c.in-Some.step c.in-Some.ensures refl refl c.carry_out.ensures)

pub returns-in-None : goal.returns-in-None
returns-in-None g c =
    let w : Wording = g.D.Dialect.wording c.args.dialect.now in
    let a : WorkerStateParts = state_of c.self.inside.io c.self.inside.takings c.self.inside.seat c.self.inside.withdrawn in
    let b : WorkerStateParts = state_of c.on_quiet.new.self c.self.inside.takings c.self.inside.seat c.self.inside.withdrawn in
    λ held. subst (λ (x : WorkerStateParts). Heeds w held x b) c.self.view_is
    (heeds_moves w held a b c.in-None.ensures refl refl)

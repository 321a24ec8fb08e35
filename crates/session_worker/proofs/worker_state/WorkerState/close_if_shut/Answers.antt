use Rattle.std.proofs.Common.{refl, subst}
use Rattle.dialect.specs.Wording.{Wording}
use Rattle.session_worker.specs.Linking.{WorkerStateParts, Heeds}
use Rattle.session_worker.proofs.Calling.{moves_broken}
use Rattle.session_worker.proofs.Doing.{state_of, heeds_none, heeds_on, heeds_moves, heeds_drains}
use Rattle.session_worker.proofs.worker_state.WorkerState.close_if_shut.Goals as goal

pub returns-then-not-is_connected : goal.returns-then-not-is_connected
returns-then-not-is_connected g c = λ held. heeds_none _ held _

pub returns-in-Everything : goal.returns-in-Everything
returns-in-Everything g c =
    let w : Wording = g.D.Dialect.wording c.args.dialect.now in
    let a : WorkerStateParts = state_of c.self.inside.io c.self.inside.takings c.self.inside.seat c.self.inside.withdrawn in
    let b : WorkerStateParts = state_of c.close.new.self c.self.inside.takings c.self.inside.seat c.self.inside.withdrawn in
    let d : WorkerStateParts = c.drain.new.self in
    λ held. subst (λ (x : WorkerStateParts). Heeds w held x d) c.self.view_is
    (heeds_on w held a b d (heeds_moves w held a b c.close.ensures.moves refl refl)
    (heeds_drains w held b d c.drain.ensures c.close.ensures.idle))

pub returns-in-SomeLeft : goal.returns-in-SomeLeft
returns-in-SomeLeft g c =
    let w : Wording = g.D.Dialect.wording c.args.dialect.now in
    let a : WorkerStateParts = state_of c.self.inside.io c.self.inside.takings c.self.inside.seat c.self.inside.withdrawn in
    let b : WorkerStateParts = state_of c.close.new.self c.self.inside.takings c.self.inside.seat c.self.inside.withdrawn in
    let d : WorkerStateParts = c.drain.new.self in
    λ held. subst (λ (x : WorkerStateParts). Heeds w held x d) c.self.view_is
    (heeds_on w held a b d (heeds_moves w held a b c.close.ensures.moves refl refl)
    (heeds_drains w held b d c.drain.ensures c.close.ensures.idle))

pub returns-in-NoRoom : goal.returns-in-NoRoom
returns-in-NoRoom g c =
    let w : Wording = g.D.Dialect.wording c.args.dialect.now in
    let a : WorkerStateParts = state_of c.self.inside.io c.self.inside.takings c.self.inside.seat c.self.inside.withdrawn in
    let b : WorkerStateParts = state_of c.close.new.self c.self.inside.takings c.self.inside.seat c.self.inside.withdrawn in
    let d : WorkerStateParts = c.drain.new.self in
    let m : WorkerStateParts = state_of c.self-2.inside.io c.self-2.inside.takings c.self-2.inside.seat c.self-2.inside.withdrawn in
    let e : WorkerStateParts = state_of c.break_off.new.self c.self-2.inside.takings c.self-2.inside.seat c.self-2.inside.withdrawn in
    λ held. subst (λ (x : WorkerStateParts). Heeds w held x e) c.self.view_is
    (heeds_on w held a d e (heeds_on w held a b d (heeds_moves w held a b c.close.ensures.moves refl refl)
    (heeds_drains w held b d c.drain.ensures c.close.ensures.idle))
    (subst (λ (x : WorkerStateParts). Heeds w held x e) c.self-2.view_is
    (heeds_moves w held m e (moves_broken w m.io e.io c.break_off.ensures.session c.break_off.ensures.wire
    c.break_off.ensures.told) refl refl)))

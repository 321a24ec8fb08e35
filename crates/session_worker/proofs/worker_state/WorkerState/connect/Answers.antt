use Rattle.std.proofs.Common.{refl, sym, ap, subst, ◌∙◌}
use Rattle.dialect.specs.Wording.{Wording}
use Rattle.session_worker.specs.Events.{IsIdle}
use Rattle.session_worker.specs.Linking.{WorkerStateParts, Heeds}
use Rattle.session_core.specs.declared.phase.Phase.TheVariants.{Down}
use Rattle.session_worker.proofs.Calling.{moves_abandon, idle_in}
use Rattle.session_worker.proofs.Doing.{state_of, heeds_none, heeds_on, heeds_moves, heeds_drains}
use Rattle.session_worker.proofs.worker_state.WorkerState.connect.Goals as goal

pub returns-then-not-in_doubt : goal.returns-then-not-in_doubt
returns-then-not-in_doubt g c =
    let w : Wording = g.D.Dialect.wording c.args.dialect.now in
    let a : WorkerStateParts = state_of c.self.inside.io c.self.inside.takings c.self.inside.seat c.self.inside.withdrawn in
    let b : WorkerStateParts = state_of c.abandon.new.self c.self.inside.takings c.self.inside.seat c.self.inside.withdrawn in
    λ held. subst (λ (x : WorkerStateParts). Heeds w held x b) c.self.view_is
    (heeds_moves w held a b
    (moves_abandon w a.io b.io c.abandon.ensures.session c.abandon.ensures.wire c.abandon.ensures.told) refl refl)

pub returns-then-not-may_dial : goal.returns-then-not-may_dial
returns-then-not-may_dial g c = λ held. heeds_none _ held _

pub returns-then-connect : goal.returns-then-connect
returns-then-connect g c =
    let w : Wording = g.D.Dialect.wording c.args.dialect.now in
    let a : WorkerStateParts = state_of c.self.inside.io c.self.inside.takings c.self.inside.seat c.self.inside.withdrawn in
    let b : WorkerStateParts = state_of c.connect.new.self c.self.inside.takings c.self.inside.seat c.self.inside.withdrawn in
    λ held. subst (λ (x : WorkerStateParts). Heeds w held x b) c.self.view_is
    (heeds_moves w held a b c.connect.ensures.moves refl refl)

pub returns : goal.returns
returns g c =
    let w : Wording = g.D.Dialect.wording c.args.dialect.now in
    let a : WorkerStateParts = state_of c.self.inside.io c.self.inside.takings c.self.inside.seat c.self.inside.withdrawn in
    let d : WorkerStateParts = state_of c.connect.new.self c.self.inside.takings c.self.inside.seat c.self.inside.withdrawn in
    let e : WorkerStateParts = c.drain.new.self in
    let m : WorkerStateParts = state_of c.self-2.inside.io c.self-2.inside.takings c.self-2.inside.seat c.self-2.inside.withdrawn in
    let f : WorkerStateParts = state_of c.abandon-2.new.self c.self-2.inside.takings c.self-2.inside.seat c.self-2.inside.withdrawn in
    let down = ap (λ (x : WorkerStateParts). x.io.session.phase) c.self.view_is ∙ c.requires in
    let idle : IsIdle a.io.session = idle_in a.io.session Down down (λ e. cc) in
    let still : IsIdle d.io.session = subst IsIdle (sym (c.connect.ensures.spent c.if-connect.false)) idle in
    λ held. subst (λ (x : WorkerStateParts). Heeds w held x f) c.self.view_is
    (heeds_on w held a e f (heeds_on w held a d e (heeds_moves w held a d c.connect.ensures.moves refl refl)
    (heeds_drains w held d e c.drain.ensures still))
    (subst (λ (x : WorkerStateParts). Heeds w held x f) c.self-2.view_is
    (heeds_moves w held m f
    (moves_abandon w m.io f.io c.abandon-2.ensures.session c.abandon-2.ensures.wire c.abandon-2.ensures.told) refl refl)))

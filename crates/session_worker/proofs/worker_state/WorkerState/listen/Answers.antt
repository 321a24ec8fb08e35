use Rattle.std.proofs.Common.{refl, subst}
use Rattle.dialect.specs.Wording.{Wording}
use Rattle.session_worker.specs.Linking.{WorkerStateParts, Heeds}
use Rattle.session_worker.proofs.Calling.{moves_read}
use Rattle.session_worker.proofs.Doing.{state_of, heeds_none, heeds_on, heeds_moves, heeds_asked}
use Rattle.session_worker.proofs.worker_state.WorkerState.listen.Goals as goal

pub returns-then-not-is_connected : goal.returns-then-not-is_connected
returns-then-not-is_connected g c = λ held. heeds_none _ held _

pub loop-init : goal.loop-init
loop-init g c =
    let w : Wording = g.D.Dialect.wording c.args.dialect.now in
    let a : WorkerStateParts = state_of c.self.inside.io c.self.inside.takings c.self.inside.seat c.self.inside.withdrawn in
    let b : WorkerStateParts = state_of c.read.new.self c.self.inside.takings c.self.inside.seat c.self.inside.withdrawn in
    λ held. subst (λ (x : WorkerStateParts). Heeds w held x b) c.self.view_is
    (heeds_moves w held a b (moves_read w a.io b.io c.read.ensures.session c.read.ensures.wire c.read.ensures.hears) refl refl)

pub loop-preserved : goal.loop-preserved
loop-preserved g c =
    let w : Wording = g.D.Dialect.wording c.args.dialect.now in
    let b : WorkerStateParts = c.loop.self in
    let k : WorkerStateParts = state_of c.self-in-loop.inside.io c.self-in-loop.inside.takings c.self-in-loop.inside.seat c.self-in-loop.inside.withdrawn in
    let d : WorkerStateParts = state_of c.hear.new.self c.self-in-loop.inside.takings c.self-in-loop.inside.seat c.self-in-loop.inside.withdrawn in
    let e : WorkerStateParts = c.carry_out.new.self in
    λ held. heeds_on w held _ b e (c.loop.invariant held)
    (subst (λ (x : WorkerStateParts). Heeds w held x e) c.self-in-loop.view_is
    (heeds_asked w held k d e c.in-Some.step c.in-Some.ensures.asks refl refl c.carry_out.ensures))

pub returns-in-None : goal.returns-in-None
returns-in-None g c =
    let w : Wording = g.D.Dialect.wording c.args.dialect.now in
    let b : WorkerStateParts = c.loop.self in
    let k : WorkerStateParts = state_of c.self-in-loop.inside.io c.self-in-loop.inside.takings c.self-in-loop.inside.seat c.self-in-loop.inside.withdrawn in
    let d : WorkerStateParts = state_of c.hear.new.self c.self-in-loop.inside.takings c.self-in-loop.inside.seat c.self-in-loop.inside.withdrawn in
    λ held. heeds_on w held _ b d (c.loop.invariant held)
    (subst (λ (x : WorkerStateParts). Heeds w held x d) c.self-in-loop.view_is (heeds_moves w held k d c.in-None.ensures.asks refl refl))

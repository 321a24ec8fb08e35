use Rattle.std.proofs.Common.{◌≡◌, true, false, refl, sym, ap, subst, ◌∙◌}
use Rattle.session_worker.specs.Ends.{is_over, last_calls}
use Rattle.link.specs.Traffic.{Tells, Stays}
use Rattle.session_worker.specs.Events.{Goes}
use Rattle.session_worker.specs.Keeping.{TellsEvents}
use Rattle.session_worker.proofs.Spoken.{stays_here}
use Rattle.session_worker.specs.Linking.{WorkerStateParts, worker_in}
use Rattle.session_worker.proofs.Doing.{state_of, finish_closed, finish_abandoned, tells_closed, tells_abandoned, closed_in, abandoned_closed}
use Rattle.session_worker.proofs.worker_state.WorkerState.finish.Goals as goal

pub returns-then-has_ended-clause-goes : goal.returns-then-has_ended-clause-goes
returns-then-has_ended-clause-goes g c =
    let e : is_over c.self.inside.io.session.phase ≡ true =
    ap is_over (sym c.phase.ensures) ∙ (sym c.has_ended.ensures ∙ c.if-has_ended.true) in
    let over : is_over c.args.self.now.io.session.phase ≡ true =
    subst (λ (x : WorkerStateParts). is_over x.io.session.phase ≡ true) c.self.view_is e in
    λ read. finish_closed read _ _ refl refl refl over

pub returns-then-has_ended-clause-over : goal.returns-then-has_ended-clause-over
returns-then-has_ended-clause-over g c =
    let e : is_over c.self.inside.io.session.phase ≡ true =
    ap is_over (sym c.phase.ensures) ∙ (sym c.has_ended.ensures ∙ c.if-has_ended.true) in
    closed_in c.args.self.now.io.session.phase
    (subst (λ (x : WorkerStateParts). is_over x.io.session.phase ≡ true) c.self.view_is e)

pub returns-clause-goes : goal.returns-clause-goes
returns-clause-goes g c =
    let a : WorkerStateParts = state_of c.self.inside.io c.self.inside.takings c.self.inside.seat c.self.inside.withdrawn in
    let b : WorkerStateParts = state_of c.abandon.new.self c.self.inside.takings c.self.inside.seat c.self.inside.withdrawn in
    let e : is_over a.io.session.phase ≡ false =
    ap is_over (sym c.phase.ensures) ∙ (sym c.has_ended.ensures ∙ c.if-has_ended.false) in
    λ read. subst (λ (x : WorkerStateParts). Goes read (worker_in x) (last_calls x.io.session.phase) (worker_in b)) c.self.view_is
    (finish_abandoned read (worker_in a) (worker_in b) c.abandon.ensures.session refl refl e)

pub returns-clause-over : goal.returns-clause-over
returns-clause-over g c =
    abandoned_closed c.self.inside.io.session c.abandon.new.self.session
    c.abandon.ensures.session

pub returns-then-has_ended-clause-wire : goal.returns-then-has_ended-clause-wire
returns-then-has_ended-clause-wire g c =
    stays_here _

pub returns-then-has_ended-clause-told : goal.returns-then-has_ended-clause-told
returns-then-has_ended-clause-told g c =
    let e : is_over c.self.inside.io.session.phase ≡ true =
    ap is_over (sym c.phase.ensures) ∙ (sym c.has_ended.ensures ∙ c.if-has_ended.true) in
    let over : is_over c.args.self.now.io.session.phase ≡ true =
    subst (λ (x : WorkerStateParts). is_over x.io.session.phase ≡ true) c.self.view_is e in
    tells_closed c.args.self.now.io.session.phase _ _ over refl

pub returns-clause-wire : goal.returns-clause-wire
returns-clause-wire g c =
    subst (λ (x : WorkerStateParts). Tells x.io.wire c.abandon.new.self.wire Stays) c.self.view_is c.abandon.ensures.wire

pub returns-clause-told : goal.returns-clause-told
returns-clause-told g c =
    let e : is_over c.self.inside.io.session.phase ≡ false =
    ap is_over (sym c.phase.ensures) ∙ (sym c.has_ended.ensures ∙ c.if-has_ended.false) in
    subst (λ (x : WorkerStateParts). TellsEvents x.io.told (last_calls x.io.session.phase) c.abandon.new.self.told) c.self.view_is
    (tells_abandoned c.self.inside.io.session.phase _ _ e c.abandon.ensures.told)

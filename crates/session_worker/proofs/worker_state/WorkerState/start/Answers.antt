use Rattle.std.proofs.Common.{◌∙◌, ap}
use Rattle.dialect.specs.Wording.{Wording}
use Rattle.session_core.specs.declared.phase.Phase.TheVariants.{Down}
use Rattle.session_core.specs.Session.{SessionParts}
use Rattle.session_worker.specs.Events.{IsIdle}
use Rattle.session_worker.specs.Linking.{WorkerStateParts}
use Rattle.session_worker.proofs.Calling.{idle_in}
use Rattle.session_worker.proofs.Doing.{heeds_on, heeds_stay, heeds_drains}
use Rattle.session_worker.proofs.worker_state.WorkerState.start.Goals as goal

pub connect-requires : goal.connect-requires
connect-requires g c =
    ap (λ (s : SessionParts). s.phase) c.drain.ensures.io.session
    ∙ (ap (λ (x : WorkerStateParts). x.io.session.phase) c.put_down.ensures ∙ c.requires)

pub returns-in-Everything : goal.returns-in-Everything
returns-in-Everything g c =
    let w : Wording = g.D.Dialect.wording c.args.dialect.now in
    let p : WorkerStateParts = c.put_down.new.self in
    let b : WorkerStateParts = c.drain.new.self in
    let down = ap (λ (x : WorkerStateParts). x.io.session.phase) c.put_down.ensures ∙ c.requires in
    let idle : IsIdle p.io.session = idle_in p.io.session Down down (λ e. cc) in
    λ held. heeds_on w held _ b _ (heeds_on w held _ p b (heeds_stay w held _ p c.put_down.ensures) (heeds_drains w held p b c.drain.ensures idle)) (c.connect.ensures held)

pub returns-in-SomeLeft : goal.returns-in-SomeLeft
returns-in-SomeLeft g c =
    let w : Wording = g.D.Dialect.wording c.args.dialect.now in
    let p : WorkerStateParts = c.put_down.new.self in
    let b : WorkerStateParts = c.drain.new.self in
    let down = ap (λ (x : WorkerStateParts). x.io.session.phase) c.put_down.ensures ∙ c.requires in
    let idle : IsIdle p.io.session = idle_in p.io.session Down down (λ e. cc) in
    λ held. heeds_on w held _ p b (heeds_stay w held _ p c.put_down.ensures) (heeds_drains w held p b c.drain.ensures idle)

pub returns-in-NoRoom : goal.returns-in-NoRoom
returns-in-NoRoom g c =
    let w : Wording = g.D.Dialect.wording c.args.dialect.now in
    let p : WorkerStateParts = c.put_down.new.self in
    let b : WorkerStateParts = c.drain.new.self in
    let down = ap (λ (x : WorkerStateParts). x.io.session.phase) c.put_down.ensures ∙ c.requires in
    let idle : IsIdle p.io.session = idle_in p.io.session Down down (λ e. cc) in
    λ held. heeds_on w held _ p b (heeds_stay w held _ p c.put_down.ensures) (heeds_drains w held p b c.drain.ensures idle)

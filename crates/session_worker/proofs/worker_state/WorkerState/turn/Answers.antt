use Rattle.std.proofs.Common.{ap, subst}
use Rattle.dialect.specs.Wording.{Wording}
use Rattle.session_worker.specs.Linking.{SessionIoParts, WorkerStateParts, Heeds}
use Rattle.session_worker.proofs.Doing.{state_of, heeds_on, heeds_stay, heeds_same}
use Rattle.session_worker.proofs.worker_state.WorkerState.turn.Goals as goal

pub returns : goal.returns
returns g c =
    let w : Wording = g.D.Dialect.wording c.args.dialect.now in
    let h = c.args.held in
    let a : WorkerStateParts = state_of c.self.inside.io c.self.inside.takings c.self.inside.seat c.self.inside.withdrawn in
    let b : WorkerStateParts = state_of c.begin_turn.new.self c.self.inside.takings c.self.inside.seat c.self.inside.withdrawn in
    let at_ask : WorkerStateParts = c.ask_if_silent.new.self in
    let at_rest : WorkerStateParts = c.rest_if_idle.new.self in
    let begun = heeds_stay w h a b (ap (λ (io : SessionIoParts). state_of io a.took a.seat a.withdrawn) c.begin_turn.ensures) in
    subst (λ (x : WorkerStateParts). Heeds w h x at_rest) c.self.view_is
    (heeds_on w h a at_ask at_rest (heeds_on w h a _ at_ask (heeds_on w h a _ _ (heeds_on w h a _ _ (heeds_on w h a _ _
    (heeds_on w h a b _ begun c.begin.ensures) (c.close_if_shut.ensures h)) (c.listen.ensures h)) (c.write_if_quiet.ensures h))
    (c.ask_if_silent.ensures h))
    (heeds_same w h at_ask at_rest c.rest_if_idle.ensures.session c.rest_if_idle.ensures.took c.rest_if_idle.ensures.seat
    c.rest_if_idle.ensures.wire c.rest_if_idle.ensures.stream c.rest_if_idle.ensures.told))

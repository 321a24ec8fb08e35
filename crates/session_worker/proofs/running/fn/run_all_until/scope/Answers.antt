use Rattle.std.proofs.Common.{◌≡◌, rules, List, length, [], ◌∷◌, ◌++◌, ap, sym, subst, ◌∙◌, arith}
use Rattle.session_worker.specs.Ends.{WorkerLeft, AllRan}
use Rattle.session_worker.proofs.Ran.{all_ran, all_started, one_started, nothing_left, has_room}
use Rattle.session_worker.proofs.running.fn.run_all_until.scope.Goals as goal

pub returns-in-Ok-join_promised : goal.returns-in-Ok-join_promised
returns-in-Ok-join_promised g c =
    let none = nothing_left c.pop_front.result c.loop-worker.workers.items c.pop_front.new.self.items c.in_default.not-Some c.pop_front.ensures.items c.pop_front.ensures.rest in
    let from : c.from-workers.result.items ≡ c.captures.workers.items = search rules in
    let joined = c.in-Ok-join_promised.ensures in
    let left : List WorkerLeft = c.in-Ok-join_promised.ends.items in
    let many : length left ≡ length c.loop-worker.handles.items =
    omega (arith, joined.len, c.in-Ok-join_promised.ends.ok.0, c.loop-worker.handles.ok.0) in
    subst (λ workers. AllRan g.D.Dialect.wording workers left)
    (all_started (λ h. h.promise.0.value) c.loop-worker.handles.items c.loop-worker.workers.items c.from-workers.result.items
    c.captures.workers.items c.loop-worker.invariant none from)
    (all_ran _ g.D.Dialect.wording (λ p. p.0.value) (λ p e kept. kept) c.loop-worker.handles.items left many
    (λ i d below. (joined.each i d (omega (arith, below, c.loop-worker.handles.ok.0))).1))

pub push_reserved-requires : goal.push_reserved-requires
push_reserved-requires g c =
    has_room c.reserve.result _ _ c.reserve.ensures.ok (sym c.is_err.ensures.value ∙ c.if-is_err.false)

pub loop-worker-preserved : goal.loop-worker-preserved
loop-worker-preserved g c =
    one_started (λ h. h.promise.0.value) c.loop-worker.handles.items _ c.in-Ok.handle c.loop-worker.workers.items _ _
    c.in-Some.worker (c.push_reserved.ensures.items ∙ ap (λ hs. hs ++ c.in-Ok.handle ∷ []) c.reserve.ensures.items)
    c.in-Some.ensures.items (ap (λ p. p.0.value) c.in-Ok.ensures.ok ∙ c.of.ensures) c.loop-worker.invariant

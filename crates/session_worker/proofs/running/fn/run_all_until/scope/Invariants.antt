use Rattle.std.proofs.Common.{◌≡◌, ◌++◌, length, map}
use Rattle.session_worker.proofs.running.fn.run_all_until.scope.Given as goal

abbrev pub invariant-loop-worker : goal.invariant-loop-worker
invariant-loop-worker g l =
    map (λ h. h.promise.0.value) l.handles.items ++ l.workers.items ≡ l.initial.workers.items

abbrev pub decreases-loop-worker : goal.decreases-loop-worker
decreases-loop-worker g l = length l.workers.items

use Rattle.std.proofs.Common.{◌≡◌, take}
use Rattle.session_worker.specs.Doubt.{in_doubt_of}
use Rattle.session_worker.proofs.worker_end.WorkerEnd.in_doubt.Given as goal

abbrev pub invariant-loop-placed : goal.invariant-loop-placed
invariant-loop-placed g l = l.ordinals.items ≡ in_doubt_of l.self-inside.session (take l.placed-index l.taken)

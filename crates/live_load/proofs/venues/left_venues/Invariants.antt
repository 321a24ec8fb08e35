use Rattle.std.proofs.Common.{◌≡◌, map, take}
use Rattle.session_worker.specs.Ends.{WorkerLeft}
use Rattle.live_load.specs.Venues.{venue_left}
use Rattle.live_load.proofs.venues.left_venues.Given as goal

abbrev pub invariant-loop-end : goal.invariant-loop-end
invariant-loop-end g l = l.venues.items ≡ map (λ (e : WorkerLeft). venue_left e.parts) (take l.end-index l.ends)

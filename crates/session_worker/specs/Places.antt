-- The places of a day's workers: which venue each has, and the parts of its seat.
use Rattle.std.specs.Prelude.{ℕ, List, map}
use Rattle.release_lock.specs.Queues.{DrainParts, new_drains}
use Rattle.session_worker.specs.Events.{WorkerParts}

-- a worker's venue, and the parts of its seat
pub record Place : Type 0 where
  pub venue : ℕ
  pub parts : ℕ

abbrev pub place_of : ℕ → ℕ → Place
place_of venue parts = record { venue = venue; parts = parts }

abbrev pub place : WorkerParts → Place
place worker = place_of worker.took.venue worker.seat.parts

-- the place of the worker of a new drain, whose seat has one part
abbrev pub new_place : DrainParts → Place
new_place drain = place_of drain.venue 1

-- the places of so many workers, one for each venue, in order
abbrev pub new_places : ℕ → List Place
new_places venues = map new_place (new_drains venues)

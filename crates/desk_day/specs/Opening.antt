-- What a day's workers begin with.
use Rattle.std.specs.Prelude.{List, [], ◌∷◌, length}
use Rattle.desk_config.specs.declared.venue.Venue.{Venue}
use Rattle.exec_collector.specs.Seats.{worker_seat}
use Rattle.release_lock.specs.Queues.{DrainParts, new_drains}
use Rattle.session_core.specs.Session.{new_session}
use Rattle.session_worker.specs.Restoring.{StartParts, new_start}
use Rattle.desk_venues.specs.Venues.{desk_end}

-- of these venues, each with the drain at its place: a worker that has done nothing
abbrev pub new_starts_on : List Venue → List DrainParts → List StartParts
new_starts_on [] drains = []
new_starts_on (venue ∷ venues) [] = []
new_starts_on (venue ∷ venues) (drain ∷ drains) =
    new_start (new_session (desk_end venue)) drain.venue (worker_seat drain.venue) ∷ new_starts_on venues drains

-- of a configuration's venues, in order
abbrev pub new_starts : List Venue → List StartParts
new_starts venues = new_starts_on venues (new_drains (length venues))

-- A day's workers before their first turns: each has its venue's dialect and terms, and nothing went over its link.
use Rattle.std.specs.Prelude.{List, [], ◌∷◌, Some, length}
use Rattle.dialect.specs.Spelled.{spelled}
use Rattle.dialect.specs.Wording.{Wording}
use Rattle.desk_config.specs.declared.venue.Venue.{Venue}
use Rattle.exec_collector.specs.Seats.{worker_seat}
use Rattle.release_lock.specs.Queues.{DrainParts, new_drains}
use Rattle.session_core.specs.Session.{new_session}
use Rattle.session_worker.specs.Ends.{WorkerStart}
use Rattle.session_worker.specs.Events.{new_worker}
use Rattle.session_worker.specs.Keeping.{Told}
use Rattle.session_worker.specs.Restoring.{StartParts, worker_from}
use Rattle.venue_words.specs.declared.venue_dialect.VenueDialect.{VenueDialect}
use Rattle.venue_words.specs.Dialect.{dialect_of, venue_spelling}
use Rattle.desk_venues.specs.Venues.{desk_end}

-- how a message of each dialect is written and read
abbrev pub any_wording : VenueDialect → Wording
any_wording dialect = spelled (venue_spelling dialect)

-- the worker of a venue that goes on from a start, and whose journal was told this; and those of venues
abbrev pub worker_at : Venue → StartParts → Told → WorkerStart VenueDialect
worker_at venue start told =
    record { dialect = dialect_of venue.words; parts = worker_from start (Some []) told }

abbrev pub workers_from : List Venue → List StartParts → List Told → List (WorkerStart VenueDialect)
workers_from (venue ∷ venues) (start ∷ starts) (told ∷ all) =
    worker_at venue start told ∷ workers_from venues starts all
workers_from _ _ _ = []

-- of this venue, with the drain of its ring
abbrev pub start_of : Venue → DrainParts → WorkerStart VenueDialect
start_of venue drain = record {
  dialect = dialect_of venue.words;
  parts = new_worker (new_session (desk_end venue)) drain.venue (worker_seat drain.venue) (Some []);
}

-- of these venues, each with the drain at its place
abbrev pub starts_on : List Venue → List DrainParts → List (WorkerStart VenueDialect)
starts_on [] drains = []
starts_on (venue ∷ venues) [] = []
starts_on (venue ∷ venues) (drain ∷ drains) = start_of venue drain ∷ starts_on venues drains

-- of a configuration's venues, in order
abbrev pub starts_of : List Venue → List (WorkerStart VenueDialect)
starts_of venues = starts_on venues (new_drains (length venues))

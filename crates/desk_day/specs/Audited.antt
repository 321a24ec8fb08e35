-- A day as it was audited, and what its venues' workers did.
use Rattle.std.specs.Prelude.{◌≡◌, ℕ, suc, List, [], ◌∷◌, Ok, Some, None}
use Rattle.desk_config.specs.declared.venue.Venue.{Venue}
use Rattle.desk_news.specs.declared.sweep_parts.SweepParts.{SweepParts}
use Rattle.day_sweeps.specs.Sweeps.{sweeps_in}
use Rattle.release_lock.specs.Seats.{AreAllPlaced}
use Rattle.session_worker.specs.declared.day_report.DayReport.{DayReport}
use Rattle.session_worker.specs.Audit.{AuditedDay}
use Rattle.exec_collector.specs.Seats.{Seat, worker_seat}
use Rattle.session_core.specs.Session.{new_session}
use Rattle.session_worker.specs.Ends.{WorkerLeft, WorkerStart, AllRan, queues_of, seats_of}
use Rattle.session_worker.specs.Events.{WorkerParts, AreAllowed, Goes, lasting, new_worker}
use Rattle.session_worker.specs.Keeping.{Told}
use Rattle.journal_words.specs.Deed.{Timed}
use Rattle.day_restart.specs.Restored.{deeds_in, past_events}
use Rattle.venue_words.specs.declared.venue_dialect.VenueDialect.{VenueDialect}
use Rattle.venue_words.specs.Dialect.{dialect_of}
use Rattle.desk_venues.specs.Venues.{desk_end}
use Rattle.desk_venues.specs.Starts.{any_wording, starts_of}

-- what these workers left was audited with the seats of all callers and found right, as the report says; and the sweeps
-- told are those of the book that was audited, and on the callers' seats, each once and under its number
pub record IsAudited (ends : List WorkerLeft) (sweeps : List SweepParts) (report : DayReport) : Type 0 where
  pub callers : List Seat
  pub day : AuditedDay callers (queues_of ends) (seats_of ends) (Ok report)
  pub told : sweeps ≡ sweeps_in day.book
  pub all_placed : AreAllPlaced callers day.desk.desk.sweeps

-- the worker of each of these venues ran from its start, and what they left was audited so
pub record IsDeskDay (venues : List Venue) (sweeps : List SweepParts) (report : DayReport) : Type 0 where
  pub ends : List WorkerLeft
  pub ran : AllRan any_wording (starts_of venues) ends
  pub audited : IsAudited ends sweeps report

-- the worker of the venue at a place that has done nothing
abbrev pub new_at : ℕ → Venue → WorkerParts
new_at place venue = new_worker (new_session (desk_end venue)) place (worker_seat place) (Some [])

-- a journal that says what it was told has kept these lines; a day without one found none
abbrev pub HasKept : List (List ℕ) → Told → Type 0
HasKept lines None = lines ≡ []
HasKept lines (Some told) = told.kept ≡ lines

-- a worker that begins new, or goes on from the lines of its journal: it is what their deeds left of a new one, with
-- its connection gone then, if a session allowed them; and nothing went over its link
pub record IsBegun (place : ℕ) (venue : Venue) (start : WorkerStart VenueDialect) : Type 0 where
  pub dialect : start.dialect ≡ dialect_of venue.words
  pub lines : List (List ℕ)
  pub kept : HasKept lines start.parts.told
  pub deeds : List Timed
  pub said : deeds_in lines ≡ Some deeds
  pub goes : AreAllowed (any_wording start.dialect).decoding (new_session (desk_end venue)) (past_events deeds)
      → Goes (any_wording start.dialect).decoding (new_at place venue) (past_events deeds) start.parts
  pub place_is : start.parts.took.venue ≡ place
  pub seat : lasting start.parts.seat ≡ lasting (worker_seat place)
  pub wire : start.parts.wire ≡ Some []

-- each of these began so, the first of them at this place
abbrev pub AreBegun : ℕ → List Venue → List (WorkerStart VenueDialect) → Type 0
AreBegun place [] [] = Unit {0}
AreBegun place (venue ∷ venues) (start ∷ starts) =
    IsBegun place venue start × AreBegun (suc place) venues starts
AreBegun place venues starts = ⊥

-- a day that may have had lives before: the worker of each of these venues ran from what those left, and what they left
-- now was audited so
pub record IsDayOver (venues : List Venue) (sweeps : List SweepParts) (report : DayReport) : Type 0 where
  pub starts : List (WorkerStart VenueDialect)
  pub begun : AreBegun 0 venues starts
  pub ends : List WorkerLeft
  pub ran : AllRan any_wording starts ends
  pub audited : IsAudited ends sweeps report

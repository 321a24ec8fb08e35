-- The sweep theorem of a day that is printed: of each of its venues, by the bytes on the venue's link.
use Rattle.std.specs.Prelude.{◌≡◌, ℕ, List, [], slice_get, Some}
use Rattle.fix_tags.specs.Config.{ConfigParts, IsConfig}
use Rattle.leg.specs.declared.leg.Leg.{Leg}
use Rattle.dialect.specs.Wording.{Wording}
use Rattle.session_core.specs.Session.{new_session}
use Rattle.sweep_release.specs.Released.{released}
use Rattle.exec_collector.specs.Seats.{worker_seat}
use Rattle.exec_collector.specs.Unbooked.{CountedParts}
use Rattle.desk_config.specs.declared.venue.Venue.{Venue}
use Rattle.desk_news.specs.declared.sweep_parts.SweepParts.{SweepParts}
use Rattle.session_worker.specs.declared.day_report.DayReport.{DayReport}
use Rattle.session_worker.specs.Audit.{counted_of}
use Rattle.session_worker.specs.Ends.{WorkerLeft, Runs}
use Rattle.session_worker.specs.Events.{WorkerParts, new_worker, taken_of}
use Rattle.worker_line.specs.Coming.{LegsAreInRange}
use Rattle.worker_line.specs.DayByBytes.{IsSafeByBytes}
use Rattle.worker_line.specs.Happening.{VenueEvent, works_of}
use Rattle.worker_line.specs.WorkerTheorem.{works_in}
use Rattle.desk_venues.specs.Starts.{any_wording}
use Rattle.venue_words.specs.Dialect.{dialect_of}
use Rattle.desk_venues.specs.Venues.{desk_end}
use Rattle.desk_day.specs.Audited.{IsDeskDay}

-- how the worker of the venue at a place begins: nothing went over its link
abbrev pub start_at : ℕ → Venue → WorkerParts
start_at place venue = new_worker (new_session (desk_end venue)) place (worker_seat place) (Some [])

-- the worker at a place ran from this start and left what stands there; and whatever the exchange did meanwhile, and
-- whenever legs were released, the venue is safe by the bytes on its link
pub record IsSafeAt (w : Wording) (config : ConfigParts) (legs : List Leg) (counted : CountedParts)
    (ends : List WorkerLeft) (place : ℕ) (start : WorkerParts) : Type 0 where
  pub left : WorkerLeft
  pub is : slice_get ends place ≡ Some left
  pub runs : Runs w start left
  pub safe : (events : List VenueEvent) → works_of events ≡ works_in runs → LegsAreInRange (taken_of (works_of events))
      → IsSafeByBytes w config legs events counted place start left.parts

-- each venue of a day that is told with these sweeps and this report, where its terms are a session's
abbrev pub TheDeskTheorem : Type 0
TheDeskTheorem = (venues : List Venue) (sweeps : List SweepParts) (report : DayReport)
    (day : IsDeskDay venues sweeps report) (place : ℕ) (venue : Venue) → slice_get venues place ≡ Some venue
    → IsConfig (desk_end venue)
    → IsSafeAt (any_wording (dialect_of venue.words)) (desk_end venue)
    (released place day.audited.day.desk.desk.sweeps) (counted_of day.audited.day) day.ends place
    (start_at place venue)

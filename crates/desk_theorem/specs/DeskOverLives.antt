-- The sweep theorem of a day that may have had lives before, as it is printed: of each of its venues.
use Rattle.std.specs.Prelude.{◌≡◌, ℕ, List, [], slice_get, Some}
use Rattle.fix_tags.specs.Config.{ConfigParts, IsConfig}
use Rattle.leg.specs.declared.leg.Leg.{Leg}
use Rattle.dialect.specs.Wording.{Wording}
use Rattle.sweep_release.specs.Released.{released}
use Rattle.exec_collector.specs.Unbooked.{CountedParts}
use Rattle.desk_config.specs.declared.venue.Venue.{Venue}
use Rattle.desk_news.specs.declared.sweep_parts.SweepParts.{SweepParts}
use Rattle.session_worker.specs.declared.day_report.DayReport.{DayReport}
use Rattle.session_worker.specs.Audit.{counted_of}
use Rattle.session_worker.specs.Ends.{WorkerStart, WorkerLeft, Runs}
use Rattle.session_worker.specs.Events.{taken_of}
use Rattle.session_worker.specs.Keeping.{events_of}
use Rattle.worker_line.specs.Coming.{LegsAreInRange}
use Rattle.worker_line.specs.Happening.{VenueEvent, works_of}
use Rattle.worker_line.specs.WorkerTheorem.{released_line, works_in}
use Rattle.worker_restart.specs.WorkerLives.{WorkerLife}
use Rattle.worker_restart.specs.LivesByBytes.{ArePastLives, line_over, found_over, IsSafeOverLives}
use Rattle.venue_words.specs.declared.venue_dialect.VenueDialect.{VenueDialect}
use Rattle.venue_words.specs.Dialect.{dialect_of}
use Rattle.desk_venues.specs.Starts.{any_wording}
use Rattle.desk_venues.specs.Venues.{desk_end}
use Rattle.desk_day.specs.Audited.{IsBegun, IsDayOver}

-- the worker at a place began with what its journal's lines say, ran, and left what stands there. Whatever lives the
-- venue had before, of which these lines are what was found of them, and whatever its exchange did, it is safe over all
-- lives, by the bytes on its link in the last one
pub record IsSafeAtOver (w : Wording) (config : ConfigParts) (legs : List Leg) (counted : CountedParts)
    (ends : List WorkerLeft) (place : ℕ) (venue : Venue) : Type 0 where
  pub start : WorkerStart VenueDialect
  pub begun : IsBegun place venue start
  pub left : WorkerLeft
  pub is : slice_get ends place ≡ Some left
  pub runs : Runs w start.parts left
  pub safe : (lives : List WorkerLife) (events : List VenueEvent)
      → ArePastLives w.decoding config place legs [] (released_line config legs) lives
      → events_of begun.deeds ≡ found_over [] lives → works_of events ≡ works_in runs
      → LegsAreInRange (taken_of (works_of events))
      → IsSafeOverLives w (line_over w.decoding legs (released_line config legs) lives) lives events counted place
      start.parts left.parts

-- each venue of a day that is told with these sweeps and this report, where its terms are a session's
abbrev pub TheDeskTheoremOverLives : Type 0
TheDeskTheoremOverLives = (venues : List Venue) (sweeps : List SweepParts) (report : DayReport)
    (day : IsDayOver venues sweeps report) (place : ℕ) (venue : Venue) → slice_get venues place ≡ Some venue
    → IsConfig (desk_end venue)
    → IsSafeAtOver (any_wording (dialect_of venue.words)) (desk_end venue)
    (released place day.audited.day.desk.desk.sweeps) (counted_of day.audited.day) day.ends place venue

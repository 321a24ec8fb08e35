-- All that is claimed of a venue on an audited day, where what comes to either end comes by the bytes on its link.
use Rattle.std.specs.Prelude.{◌≡◌, ℕ, List, [], slice_get, Some, Ok}
use Rattle.fix_tags.specs.Config.{ConfigParts, IsConfig}
use Rattle.leg.specs.declared.leg.Leg.{Leg}
use Rattle.dialect.specs.Wording.{Wording}
use Rattle.session_core.specs.Session.{new_session}
use Rattle.exchange_core.specs.Acceptance.{rule_opening}
use Rattle.sweep_release.specs.Released.{released}
use Rattle.release_lock.specs.Queues.{Took}
use Rattle.exec_collector.specs.Seats.{Seat, worker_seat}
use Rattle.exec_collector.specs.Unbooked.{CountedParts}
use Rattle.session_worker.specs.declared.day_report.DayReport.{DayReport}
use Rattle.session_worker.specs.Events.{WorkerParts, calls_of, taken_of}
use Rattle.session_worker.specs.Speaking.{Speak}
use Rattle.session_worker.specs.Audit.{AuditedDay, counted_of}
use Rattle.worker_line.specs.Happening.{VenueEvent, works_of}
use Rattle.worker_line.specs.Coming.{AllCome, ExchangeKeeps, LegsAreInRange}
use Rattle.worker_line.specs.WorkerTheorem.{released_line, Ran, IsSafeVenue}

-- the worker's bytes went over its link as its calls say; and if what comes to either end came by them, and the
-- exchange keeps the rules, then the venue is safe
pub record IsSafeByBytes (w : Wording) (config : ConfigParts) (legs : List Leg) (events : List VenueEvent)
    (counted : CountedParts) (venue : ℕ) (before after : WorkerParts) : Type 0 where
  pub speak : Speak w (new_session config) [] (calls_of (works_of events)) before.wire after.wire
  pub safe : AllCome w 0 (λ m. ⊥) (new_session config) [] [] events before.wire after.wire speak
      → ExchangeKeeps rule_opening events
      → IsSafeVenue w.decoding (released_line config legs) events counted venue before after

-- each worker of a day that was audited, which began with the new seat of its venue
abbrev pub TheDayByBytes : Wording → Type 0
TheDayByBytes w = (callers : List Seat) (queues : List Took) (seats : List Seat) (report : DayReport)
    (day : AuditedDay callers queues seats (Ok report)) (venue : ℕ) (config : ConfigParts) (events : List VenueEvent)
    (after : WorkerParts) → slice_get queues venue ≡ Some after.took → slice_get seats venue ≡ Some after.seat
    → IsConfig config → (ran : Ran w config events after) → ran.before.seat ≡ worker_seat venue
    → LegsAreInRange (taken_of (works_of events))
    → IsSafeByBytes w config (released venue day.desk.desk.sweeps) events (counted_of day) venue ran.before
    after

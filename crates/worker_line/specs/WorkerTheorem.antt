-- A running worker is the session of a line: what is proved of lines holds of it, at each moment.
use Rattle.std.specs.Prelude.{◌≡◌, ◌≤◌, ℕ, List, [], ◌++◌, length, map, slice_get, Some, Ok}
use Rattle.std.specs.List.{All, AllPairs}
use mathlib.Core.List.{IsPrefix}
use Rattle.fix_tags.specs.Config.{ConfigParts}
use Rattle.leg.specs.declared.leg.Leg.{Leg}
use Rattle.dialect.specs.Wording.{Decoding, Wording}
use Rattle.session_core.specs.Session.{new_session}
use Rattle.sweep_release.specs.Released.{released}
use Rattle.release_lock.specs.Queues.{Took, placed_from}
use Rattle.exec_collector.specs.Seats.{Seat, worker_seat}
use Rattle.exec_collector.specs.Unbooked.{CountedParts, AreToldOnce}
use Rattle.venue_line.specs.Line.{Line, new_line}
use Rattle.venue_line.specs.LineTheorem.{LineHolds}
use Rattle.venue_line.specs.ForGood.{StaysSettled}
use Rattle.session_worker.specs.declared.day_report.DayReport.{DayReport}
use Rattle.session_worker.specs.declared.end_reason.EndReason.{EndReason}
use Rattle.session_worker.specs.Booking.{booked_by}
use Rattle.session_worker.specs.Events.{WorkerEvent, WorkerParts, calls_of, withdrawn_by, Goes}
use Rattle.session_worker.specs.Events.WorkerEvent.{Drops}
use Rattle.session_worker.specs.Ends.{WorkerLeft, last_calls, Runs}
use Rattle.session_worker.specs.Audit.{AuditedDay, counted_of}
use Rattle.worker_line.specs.Happening.{VenueEvent, works_of, after_events, moments_of, MayAllHappen, AllTakeNext}
use Rattle.worker_line.specs.Gone.{AreGone}
use Rattle.worker_line.specs.Shares.{AreShares}

-- a line on which nothing has happened, but that these legs are released
abbrev pub released_line : ConfigParts → List Leg → Line
released_line config legs = record (new_line config) { released = legs }

-- a worker that began with a new session and no leg, and did just this, with the rest of the events between
pub record Worked (read : Decoding) (config : ConfigParts) (events : List VenueEvent) (after : WorkerParts)
    : Type 0 where
  pub before : WorkerParts
  pub new : before.session ≡ new_session config
  pub empty : before.took.taken ≡ []
  pub goes : Goes read before (works_of events) after

-- what a worker did in its turns and when it ended
abbrev pub works_in : {w : Wording} {before : WorkerParts} {left : WorkerLeft} → Runs w before left → List WorkerEvent
works_in runs = runs.turns ++ (last_calls runs.at.session.phase ++ map (λ leg. Drops leg) runs.dropped)

-- the same of one that ran to its end
pub record Ran (w : Wording) (config : ConfigParts) (events : List VenueEvent) (after : WorkerParts) : Type 0 where
  pub before : WorkerParts
  pub new : before.session ≡ new_session config
  pub empty : before.took.taken ≡ []
  pub why : EndReason
  pub runs : Runs w before (record { parts = after; reason = why })
  pub works : works_of events ≡ works_in runs

-- at each moment what is safe on a line holds, and from each to every later one what is settled stays so; the line that
-- is reached at the end has the worker's session, and was given the notes that the session's calls confirm. These are
-- just the notes that the book took on the worker's seat meanwhile, in order, and the legs that it was asked to
-- withdraw are just those that the worker's events withdraw: these are the legs that are withdrawn on the line. And the
-- legs that left are those that the worker took, the first ones released
pub record IsSafeLine (read : Decoding) (start : Line) (events : List VenueEvent) (before after : WorkerParts)
    : Type 0 where
  pub holds : All LineHolds (moments_of read start events)
  pub settled : AllPairs StaysSettled (moments_of read start events)
  pub session : (after_events read start events).session ≡ after.session
  pub given : (after_events read start events).given
      ≡ booked_by read start.session start.waiting (calls_of (works_of events))
  pub booked : after.seat.booked ≡ before.seat.booked ++ (after_events read start events).given
  pub asked : after.seat.asked ≡ before.seat.asked ++ withdrawn_by read start.session (works_of events)
  pub gone : AreGone (after_events read start events) (withdrawn_by read start.session (works_of events))
  pub left : (after_events read start events).left ≡ length after.took.taken
  pub first : IsPrefix after.took.taken (placed_from 1 (after_events read start events).released)

-- whatever the exchange does that keeps the rules, and whenever legs are released and taken
abbrev pub TheWorkerTheorem : Type 0
TheWorkerTheorem = (read : Decoding) (config : ConfigParts) (legs : List Leg) (events : List VenueEvent)
    (after : WorkerParts) → config.max_number ≤ 999999999 → (worked : Worked read config events after)
    → MayAllHappen read (released_line config legs) events → AllTakeNext read (released_line config legs) events
    → IsSafeLine read (released_line config legs) events worked.before after

-- of a worker that ran, where all that is known of its legs is that they are the first of those released
abbrev pub TheRunTheorem : Wording → Type 0
TheRunTheorem w = (config : ConfigParts) (legs : List Leg) (events : List VenueEvent) (after : WorkerParts)
    → config.max_number ≤ 999999999 → (ran : Ran w config events after)
    → MayAllHappen w.decoding (released_line config legs) events → IsPrefix after.took.taken (placed_from 1 legs)
    → IsSafeLine w.decoding (released_line config legs) events ran.before after

-- so it is of a venue's worker, and the shares of the venue's legs in the book are as the line's notes say, and as the
-- withdrawals that the worker asked for. Each of the notes is an entry of the book or is listed as one that it didn't
-- take, exactly once
pub record IsSafeVenue (read : Decoding) (start : Line) (events : List VenueEvent) (counted : CountedParts) (venue : ℕ)
    (before after : WorkerParts) : Type 0 where
  pub line : IsSafeLine read start events before after
  pub shares : AreShares counted.book venue (after_events read start events).given
      (withdrawn_by read start.session (works_of events))
  pub told : AreToldOnce counted venue (after_events read start events).given

-- and of each worker of a day that was audited, where nothing need be known of its legs: it began with the new seat of
-- its venue, and ended with the one at the venue's place
abbrev pub TheDayTheorem : Wording → Type 0
TheDayTheorem w = (callers : List Seat) (queues : List Took) (seats : List Seat) (report : DayReport)
    (day : AuditedDay callers queues seats (Ok report)) (venue : ℕ) (config : ConfigParts) (events : List VenueEvent)
    (after : WorkerParts) → slice_get queues venue ≡ Some after.took → slice_get seats venue ≡ Some after.seat
    → config.max_number ≤ 999999999 → (ran : Ran w config events after) → ran.before.seat ≡ worker_seat venue
    → MayAllHappen w.decoding (released_line config (released venue day.desk.desk.sweeps)) events
    → IsSafeVenue w.decoding (released_line config (released venue day.desk.desk.sweeps)) events (counted_of day) venue
    ran.before after

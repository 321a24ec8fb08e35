-- A day of several lives by its bytes: what is found in a journal of the lives before, and what holds over all of them,
-- where what comes to either end in the last one comes by the bytes on its link.
use Rattle.std.specs.Prelude.{◌≡◌, ℕ, List, [], ◌∷◌, ◌++◌, slice_get, Some, Ok}
use Rattle.std.specs.List.{Contains}
use mathlib.Core.List.{IsPrefix}
use Rattle.fix_tags.specs.Config.{ConfigParts, IsConfig}
use Rattle.leg.specs.declared.leg.Leg.{Leg}
use Rattle.dialect.specs.Wording.{Decoding, Wording}
use Rattle.session_core.specs.declared.session_call.SessionCall.TheVariants as call
use Rattle.session_core.specs.Session.{new_session}
use Rattle.session_core.specs.Trial.{AreRead}
use Rattle.sweep_release.specs.Released.{released}
use Rattle.release_lock.specs.Queues.{Took, placed_from}
use Rattle.exec_collector.specs.Seats.{Seat, worker_seat}
use Rattle.exec_collector.specs.Unbooked.{CountedParts}
use Rattle.venue_line.specs.Line.{Line}
use Rattle.line_restart.specs.Lives.{restarted}
use Rattle.session_worker.specs.declared.day_report.DayReport.{DayReport}
use Rattle.session_worker.specs.Audit.{AuditedDay, counted_of}
use Rattle.session_worker.specs.Ends.{WorkerLeft, Runs}
use Rattle.session_worker.specs.Events.{WorkerEvent, WorkerParts, calls_of, taken_of, Goes, new_worker}
use Rattle.session_worker.specs.Events.WorkerEvent.{Calls}
use Rattle.session_worker.specs.Speaking.{Speak}
use Rattle.worker_line.specs.Coming.{AllCome, ExchangeKeeps, LegsAreInRange}
use Rattle.worker_line.specs.Happening.{VenueEvent, works_of}
use Rattle.worker_line.specs.WorkerTheorem.{released_line, works_in}
use Rattle.worker_restart.specs.WorkerLives.{WorkerLife, IsRun, durable_at, killed_at}
use Rattle.worker_restart.specs.WorkerRestartTheorem.{AreSafeLivesOf}

-- what a start makes of a new worker of this venue, where these events are found in its journal: they were done again,
-- and then its connection was gone
abbrev pub IsMadeAgain : Decoding → ConfigParts → ℕ → List WorkerEvent → WorkerParts → Type 0
IsMadeAgain read config venue found worker =
    Goes read (new_worker (new_session config) venue (worker_seat venue) (Some [])) (found ++ Calls call.Broken ∷ [])
    worker

-- a life that ended as its process was killed: the process did what stands in it, and what it wrote after the journal's
-- end didn't reach the exchange; the messages in the journal are in range; and it took the first of these legs
pub record IsPastLife (read : Decoding) (legs : List Leg) (life : WorkerLife) : Type 0 where
  pub run : IsRun read life
  pub heard : AreRead read (calls_of (works_of life.durable))
  pub first : IsPrefix life.ended.took.taken (placed_from 1 legs)

-- the line on which the next life begins: that of the journal, its connection gone, with the exchange as it is
abbrev pub line_behind : Decoding → List Leg → WorkerLife → Line
line_behind read legs life = restarted (durable_at read life) (killed_at read life) legs (durable_at read life).left

-- where lives lead, of which the first began on this line
abbrev pub line_over : Decoding → List Leg → Line → List WorkerLife → Line
line_over read legs a [] = a
line_over read legs a (life ∷ lives) = line_over read legs (line_behind read legs life) lives

-- a life that finds events in its journal first tells that the connection of the one before is gone
abbrev pub with_gone : List WorkerEvent → List WorkerEvent
with_gone [] = []
with_gone (event ∷ found) = (event ∷ found) ++ Calls call.Broken ∷ []

-- what is found in the journal behind a life that found these, and behind lives
abbrev pub found_behind : List WorkerEvent → WorkerLife → List WorkerEvent
found_behind found life = with_gone found ++ works_of life.durable

abbrev pub found_over : List WorkerEvent → List WorkerLife → List WorkerEvent
found_over found [] = found
found_over found (life ∷ lives) = found_over (found_behind found life) lives

-- lives before the last one, of which the first finds these events: each begins on the line where those before it lead,
-- with what is found of them
abbrev pub ArePastLives : Decoding → ConfigParts → ℕ → List Leg → List WorkerEvent → Line → List WorkerLife → Type 0
ArePastLives read config venue legs found a [] = Unit {0}
ArePastLives read config venue legs found a (life ∷ lives) =
    (life.start ≡ a) × IsMadeAgain read config venue found life.worker × IsPastLife read legs life
    × ArePastLives read config venue legs (found_behind found life) (line_behind read legs life) lives

-- the life of a worker that ran to its end; and the first and the others of all lives
abbrev pub whole_life : Line → WorkerParts → List VenueEvent → WorkerParts → WorkerLife
whole_life start worker events after =
    record { start = start; worker = worker; durable = events; lost = []; kept = after; ended = after }

abbrev pub first_of : List WorkerLife → WorkerLife → WorkerLife
first_of [] last = last
first_of (life ∷ lives) last = life

abbrev pub others_of : List WorkerLife → WorkerLife → List WorkerLife
others_of [] last = []
others_of (life ∷ lives) last = lives ++ last ∷ []

-- of a worker that ran to its end behind these lives: its bytes went over its link as its calls say. And if what comes
-- to either end in this life came by them, or was written in a life before, and the exchange keeps the rules, then the
-- venue is safe over all lives
pub record IsSafeOverLives (w : Wording) (a : Line) (lives : List WorkerLife) (events : List VenueEvent)
    (counted : CountedParts) (venue : ℕ) (worker after : WorkerParts) : Type 0 where
  pub speak : Speak w worker.session [] (calls_of (works_of events)) worker.wire after.wire
  pub safe : AllCome w worker.session.connection (Contains a.to_exchange) worker.session [] a.from_exchange events
      worker.wire after.wire speak
      → ExchangeKeeps a.exchange events
      → AreSafeLivesOf w.decoding counted venue (first_of lives (whole_life a worker events after))
      (others_of lives (whole_life a worker events after))

-- each worker of a day that was audited at the end of its last life, where it began with what is found in its journal
-- of the lives before
abbrev pub TheDayByBytesOverLives : Wording → Type 0
TheDayByBytesOverLives w = (callers : List Seat) (queues : List Took) (seats : List Seat) (report : DayReport)
    (day : AuditedDay callers queues seats (Ok report)) (venue : ℕ) (config : ConfigParts) (lives : List WorkerLife)
    (worker : WorkerParts) (left : WorkerLeft) (runs : Runs w worker left) (events : List VenueEvent)
    → slice_get queues venue ≡ Some left.parts.took → slice_get seats venue ≡ Some left.parts.seat → IsConfig config
    → ArePastLives w.decoding config venue (released venue day.desk.desk.sweeps) []
    (released_line config (released venue day.desk.desk.sweeps)) lives
    → IsMadeAgain w.decoding config venue (found_over [] lives) worker → works_of events ≡ works_in runs
    → LegsAreInRange (taken_of (works_of events))
    → IsSafeOverLives w
    (line_over w.decoding (released venue day.desk.desk.sweeps)
    (released_line config (released venue day.desk.desk.sweeps)) lives) lives events (counted_of day) venue worker
    left.parts

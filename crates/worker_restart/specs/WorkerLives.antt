-- A venue's worker that is killed at any moment and started again from its journal: what happens at the venue in each
-- of its lives, and the worker that each begins with.
use Rattle.std.specs.Prelude.{◌≡◌, ◌≤◌, List, [], ◌∷◌, ◌++◌, length, IfSome}
use Rattle.std.specs.List.{Contains}
use Rattle.fix_tags.specs.Config.{ConfigParts}
use Rattle.leg.specs.declared.leg.Leg.{Leg}
use Rattle.dialect.specs.Wording.{Decoding}
use Rattle.session_core.specs.Session.{new_session}
use Rattle.session_core.specs.Calling.{broken}
use Rattle.exchange_core.specs.Acceptance.{Carried}
use Rattle.venue_line.specs.Line.{Line}
use Rattle.session_worker.specs.Events.{WorkerParts, Goes}
use Rattle.line_restart.specs.Lives.{restarted}
use Rattle.worker_line.specs.Happening.{VenueEvent, works_of, after_events, moments_of, MayAllHappen, AllTakeNext}
use Rattle.worker_line.specs.Happening.VenueEvent.{Exchanges}
use Rattle.worker_line.specs.WorkerTheorem.{released_line}

-- a life of a worker: the line and the worker at its start; what happened till the journal ended, and what happened
-- then, till the worker was killed
pub record WorkerLife : Type 0 where
  pub start : Line
  pub worker : WorkerParts
  pub durable : List VenueEvent
  pub lost : List VenueEvent
  -- the worker when the journal ended, and when it was killed
  pub kept : WorkerParts
  pub ended : WorkerParts

abbrev pub durable_at : Decoding → WorkerLife → Line
durable_at read life = after_events read life.start life.durable

abbrev pub killed_at : Decoding → WorkerLife → Line
killed_at read life = after_events read (durable_at read life) life.lost

-- what comes to the exchange in an event, if something does, is one of these messages
abbrev pub IsBroughtBy : List Carried → VenueEvent → Type 0
IsBroughtBy wire (Exchanges coming t written) = IfSome coming (Contains wire)
IsBroughtBy wire _ = Unit {0}

abbrev pub AreBroughtBy : List Carried → List VenueEvent → Type 0
AreBroughtBy wire [] = Unit {0}
AreBroughtBy wire (event ∷ events) = IsBroughtBy wire event × AreBroughtBy wire events

-- the worker did just what stands in the events, all of it may happen, and what it wrote after the journal's end hasn't
-- reached the exchange
pub record IsRun (read : Decoding) (life : WorkerLife) : Type 0 where
  pub goes : Goes read life.worker (works_of life.durable) life.kept
  pub more : Goes read life.kept (works_of life.lost) life.ended
  pub happens : MayAllHappen read life.start life.durable
  pub happens_then : MayAllHappen read (durable_at read life) life.lost
  pub wire : AreBroughtBy (durable_at read life).to_exchange life.lost

-- and each leg that it took was the next one
pub record IsWorkerLife (read : Decoding) (life : WorkerLife) : Type 0 where
  pub run : IsRun read life
  pub takes : AllTakeNext read life.start life.durable
  pub takes_then : AllTakeNext read (durable_at read life) life.lost

-- the next worker is made of the journal: its session is the one when the journal ended, with its connection gone; it
-- has the legs taken till then; and its seat, of the same venue, has the notes and the withdrawals till then. A release
-- may be lost, but of no leg that had left the desk by then
pub record WorkerRestarts (read : Decoding) (life next : WorkerLife) : Type 0 where
  pub kept : List Leg
  pub forgotten : List Leg
  pub released : (killed_at read life).released ≡ kept ++ forgotten
  pub whole : (durable_at read life).left ≤ length kept
  pub start : next.start ≡ restarted (durable_at read life) (killed_at read life) kept (durable_at read life).left
  pub session : next.worker.session ≡ broken life.kept.session
  pub took : next.worker.took.taken ≡ life.kept.took.taken
  pub venue : next.worker.seat.venue ≡ life.kept.seat.venue
  pub booked : next.worker.seat.booked ≡ life.kept.seat.booked
  pub asked : next.worker.seat.asked ≡ life.kept.seat.asked

-- lives of which this holds, each but the first begun from what the journal had of the one before
abbrev pub AreInTurn : Decoding → (WorkerLife → Type 0) → WorkerLife → List WorkerLife → Type 0
AreInTurn read Is life [] = Is life
AreInTurn read Is life (next ∷ lives) = Is life × WorkerRestarts read life next × AreInTurn read Is next lives

abbrev pub AreWorkerLives : Decoding → WorkerLife → List WorkerLife → Type 0
AreWorkerLives read = AreInTurn read (IsWorkerLife read)

abbrev pub last_life : WorkerLife → List WorkerLife → WorkerLife
last_life life [] = life
last_life life (next ∷ lives) = last_life next lives

-- the line at each moment of a life, and of all lives
abbrev pub life_moments : Decoding → WorkerLife → List Line
life_moments read life = moments_of read life.start life.durable ++ moments_of read (durable_at read life) life.lost

abbrev pub lives_moments : Decoding → WorkerLife → List WorkerLife → List Line
lives_moments read life [] = life_moments read life
lives_moments read life (next ∷ lives) = life_moments read life ++ lives_moments read next lives

-- of each life that another one follows
abbrev pub AllButLast : (WorkerLife → Type 0) → WorkerLife → List WorkerLife → Type 0
AllButLast Keeps life [] = Unit {0}
AllButLast Keeps life (next ∷ lives) = Keeps life × AllButLast Keeps next lives

-- a life on a line to which just these legs were released when it began
pub record IsRunOn (read : Decoding) (legs : List Leg) (life : WorkerLife) : Type 0 where
  pub run : IsRun read life
  pub released : life.start.released ≡ legs

-- a worker that begins with a new session and no leg, and so with number 1, as does its exchange
pub record IsNewWorker (config : ConfigParts) (legs : List Leg) (life : WorkerLife) : Type 0 where
  pub start : life.start ≡ released_line config legs
  pub session : life.worker.session ≡ new_session config
  pub empty : life.worker.took.taken ≡ []

-- What a venue's worker does: the calls of its session, and what becomes of the legs that it takes from its ring.
use Rattle.std.specs.Prelude.{◌≡◌, ℕ, Bool, true, false, List, [], ◌∷◌, ◌++◌, Option, None}
use Rattle.leg.specs.LegId.{LegIdParts}
use Rattle.leg.specs.declared.placed_leg.PlacedLeg.{PlacedLeg}
use Rattle.dialect.specs.declared.note.Note.{Note}
use Rattle.dialect.specs.Wording.{Decoding}
use Rattle.session_core.specs.declared.phase.Phase.TheVariants.{Up}
use Rattle.session_core.specs.declared.session_call.SessionCall.{SessionCall}
use Rattle.session_core.specs.declared.session_call.SessionCall.TheVariants as call
use Rattle.session_core.specs.Session.{SessionParts, may_write}
use Rattle.session_core.specs.Trial.{after_calls}
use Rattle.release_lock.specs.Queues.{Took}
use Rattle.exec_collector.specs.Seats.{Seat}
use Rattle.journal_tape.specs.Told.{LinesTold}
use Rattle.session_worker.specs.Booking.{booked_by, withdrawn_at}
use Rattle.session_worker.specs.Speaking.{Wire}

-- what a worker does. A leg that fails was handed to the session, which wanted memory for it, and the connection was
-- then broken; one that drops wasn't handed to it at all
pub data WorkerEvent : Type 0 where
  Calls : SessionCall → WorkerEvent
  Drops : PlacedLeg → WorkerEvent
  Fails : PlacedLeg → WorkerEvent

-- the calls of the session in an event, and in a list of them
abbrev pub calls_in : WorkerEvent → List SessionCall
calls_in (Calls made) = made ∷ []
calls_in (Drops leg) = []
calls_in (Fails leg) = call.Broken ∷ []

abbrev pub calls_of : List WorkerEvent → List SessionCall
calls_of [] = []
calls_of (event ∷ events) = calls_in event ++ calls_of events

-- the leg that a call is to send
abbrev pub leg_in : SessionCall → List PlacedLeg
leg_in (call.SendLeg ordinal leg) = record { ordinal = ordinal; leg = leg } ∷ []
leg_in _ = []

abbrev pub legs_in : List SessionCall → List PlacedLeg
legs_in [] = []
legs_in (made ∷ calls) = leg_in made ++ legs_in calls

-- the legs that were taken, in order
abbrev pub taken_in : WorkerEvent → List PlacedLeg
taken_in (Calls made) = leg_in made
taken_in (Drops leg) = leg ∷ []
taken_in (Fails leg) = leg ∷ []

abbrev pub taken_of : List WorkerEvent → List PlacedLeg
taken_of [] = []
taken_of (event ∷ events) = taken_in event ++ taken_of events

-- the legs that an event withdraws: those of its call, or the leg that wasn't sent; and those of a list of events
abbrev pub withdrawn_in : Decoding → SessionParts → WorkerEvent → List LegIdParts
withdrawn_in read s (Calls made) = withdrawn_at read s made
withdrawn_in read s (Drops leg) = leg.leg.id ∷ []
withdrawn_in read s (Fails leg) = leg.leg.id ∷ []

abbrev pub withdrawn_by : Decoding → SessionParts → List WorkerEvent → List LegIdParts
withdrawn_by read s [] = []
withdrawn_by read s (event ∷ events) =
    withdrawn_in read s event ++ withdrawn_by read (after_calls read s (calls_in event)) events

-- a session that can't send a leg now: it isn't up, or no number is left
abbrev pub IsIdle : SessionParts → Type 0
IsIdle s = s.phase ≡ Up → may_write s ≡ false

-- a leg is handed to the session only where that is up
abbrev pub IsAllowedCall : SessionParts → SessionCall → Type 0
IsAllowedCall s (call.SendLeg ordinal leg) = s.phase ≡ Up
IsAllowedCall s _ = Unit {0}

abbrev pub IsAllowed : SessionParts → WorkerEvent → Type 0
IsAllowed s (Calls made) = IsAllowedCall s made
IsAllowed s (Drops leg) = Unit {0}
IsAllowed s (Fails leg) = s.phase ≡ Up

abbrev pub AreAllowed : Decoding → SessionParts → List WorkerEvent → Type 0
AreAllowed read s [] = Unit {0}
AreAllowed read s (event ∷ events) =
    IsAllowed s event × AreAllowed read (after_calls read s (calls_in event)) events

-- while its venue is held a worker hands no leg to its session; else it drops one only where the session can't send it
abbrev pub IsHeeded : Bool → SessionParts → WorkerEvent → Type 0
IsHeeded true s (Calls made) = leg_in made ≡ []
IsHeeded true s (Drops leg) = Unit {0}
IsHeeded true s (Fails leg) = ⊥
IsHeeded false s (Calls made) = Unit {0}
IsHeeded false s (Drops leg) = IsIdle s
IsHeeded false s (Fails leg) = Unit {0}

abbrev pub AreHeeded : Bool → Decoding → SessionParts → List WorkerEvent → Type 0
AreHeeded held read s [] = Unit {0}
AreHeeded held read s (event ∷ events) =
    IsHeeded held s event × AreHeeded held read (after_calls read s (calls_in event)) events

-- a worker as its events change it: its session, the venue and the legs taken, its seat, what its link tells, and what
-- its journal was told
pub record WorkerParts : Type 0 where
  pub session : SessionParts
  pub took : Took
  pub seat : Seat
  pub wire : Wire
  pub told : Option LinesTold

-- a worker that took nothing yet, without a journal; and one with a journal that was told this
abbrev pub new_worker : SessionParts → ℕ → Seat → Wire → WorkerParts
new_worker session venue seat wire =
    record { session = session; took = record { venue = venue; taken = [] }; seat = seat; wire = wire; told = None }

abbrev pub with_journal : Option LinesTold → WorkerParts → WorkerParts
with_journal told worker = record worker { told = told }

-- what of a seat lasts: its parts, and its venue
pub record Lasting : Type 0 where
  pub parts : ℕ
  pub venue : Option ℕ

abbrev pub lasting : Seat → Lasting
lasting seat = record { parts = seat.parts; venue = seat.venue }

-- a worker before and after these events: the session is that after the calls, and the legs taken are the events'.
-- The seat has as many parts and is of the same venue, the notes that the book took on it are those that the calls
-- confirm, whichever note waited before, and the legs that it was asked to withdraw those that the events withdraw
pub record Goes (read : Decoding) (before : WorkerParts) (events : List WorkerEvent) (after : WorkerParts)
    : Type 0 where
  pub session : after.session ≡ after_calls read before.session (calls_of events)
  pub taken : after.took.taken ≡ before.took.taken ++ taken_of events
  pub allowed : AreAllowed read before.session events
  pub venue : after.took.venue ≡ before.took.venue
  pub seat : lasting after.seat ≡ lasting before.seat
  pub booked : (waiting : Option Note)
      → after.seat.booked ≡ before.seat.booked ++ booked_by read before.session waiting (calls_of events)
  pub asked : after.seat.asked ≡ before.seat.asked ++ withdrawn_by read before.session events

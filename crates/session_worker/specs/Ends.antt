-- How a worker ends.
use Rattle.std.specs.Prelude.{◌≡◌, Bool, true, false, List, [], ◌∷◌, ◌++◌, map}
use Rattle.leg.specs.declared.placed_leg.PlacedLeg.{PlacedLeg}
use Rattle.dialect.specs.Wording.{Wording}
use Rattle.session_core.specs.declared.phase.Phase.{Phase}
use Rattle.session_core.specs.declared.phase.Phase.TheVariants.{Closed}
use Rattle.session_core.specs.Session.{is_connected}
use Rattle.session_core.specs.declared.session_call.SessionCall.TheVariants as call
use Rattle.release_lock.specs.Queues.{Took}
use Rattle.exec_collector.specs.Seats.{Seat}
use Rattle.session_worker.specs.declared.end_reason.EndReason.{EndReason}
use Rattle.session_worker.specs.declared.end_reason.EndReason.TheVariants as reason
use Rattle.session_worker.specs.Events.{WorkerEvent, WorkerParts, calls_of, Goes}
use Rattle.session_worker.specs.Events.WorkerEvent.{Calls, Drops}
use Rattle.session_worker.specs.Keeping.{TellsEvents}
use Rattle.session_worker.specs.Speaking.{Speak}

-- a session that is over
abbrev pub is_over : Phase → Bool
is_over Closed = true
is_over _ = false

-- a worker ends as closed exactly where its last turn left its session so
abbrev pub IsReason : EndReason → Phase → Type 0
IsReason reason.Closed phase = is_over phase ≡ true
IsReason reason.TurnLimit phase = is_over phase ≡ false
IsReason reason.Stopped phase = is_over phase ≡ false

-- what is done with the session then: unless it is closed it is abandoned
abbrev pub last_calls : Phase → List WorkerEvent
last_calls Closed = []
last_calls _ = Calls call.Abandon ∷ []

-- a worker before its turns, with its dialect
pub record WorkerStart (Dialect : Type 0) : Type 0 where
  pub dialect : Dialect
  pub parts : WorkerParts

-- what a worker leaves, and why it ended
pub record WorkerLeft : Type 0 where
  pub parts : WorkerParts
  pub reason : EndReason

-- what workers took, and their seats
abbrev pub queues_of : List WorkerLeft → List Took
queues_of ends = map (λ end. end.parts.took) ends

abbrev pub seats_of : List WorkerLeft → List Seat
seats_of ends = map (λ end. end.parts.seat) ends

-- a worker before its turns and what it leaves: after the last turn its session was as the reason says, and all that it
-- took then was dropped. Over its link, where it began with no connection, went what the calls of all these events say
pub record Runs (w : Wording) (before : WorkerParts) (left : WorkerLeft) : Type 0 where
  pub turns : List WorkerEvent
  pub at : WorkerParts
  pub goes : Goes w.decoding before turns at
  pub reason_is : IsReason left.reason at.session.phase
  pub dropped : List PlacedLeg
  pub last : Goes w.decoding at (last_calls at.session.phase ++ map (λ leg. Drops leg) dropped) left.parts
  pub over : left.parts.session.phase ≡ Closed
  pub tells : TellsEvents before.told (turns ++ last_calls at.session.phase ++ map (λ leg. Drops leg) dropped)
      left.parts.told
  pub bytes : is_connected before.session.phase ≡ false
      → Speak w before.session [] (calls_of (turns ++ last_calls at.session.phase)) before.wire left.parts.wire

-- each of these workers ran, and left this, in order; each says of its dialect how it is written and read
abbrev pub AllRan : {Dialect : Type 0} → (Dialect → Wording) → List (WorkerStart Dialect) → List WorkerLeft → Type 0
AllRan wording [] [] = Unit {0}
AllRan wording [] (left ∷ ends) = ⊥
AllRan wording (worker ∷ workers) [] = ⊥
AllRan wording (worker ∷ workers) (left ∷ ends) =
    Runs (wording worker.dialect) worker.parts left × AllRan wording workers ends

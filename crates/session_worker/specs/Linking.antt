-- What a worker does at its link in one step of a turn.
use Rattle.std.specs.Prelude.{◌≡◌, ◌⊎◌, ℕ, Bool, true, false, List, [], ◌∷◌, ◌++◌, map, Option, Some, None, Ok, Err}
use Rattle.fix_text.specs.Tagged.{Tagged}
use Rattle.fix_text.specs.Reading.{Stream, next_read, fed}
use Rattle.fix_tags.specs.Body.{Body}
use Rattle.fix_tags.specs.declared.body.Body.TheVariants as body
use Rattle.fix_tags.specs.declared.session_body.SessionBody.TheVariants as admin
use Rattle.fix_tags.specs.Reading.{envelope_read}
use Rattle.fix_tags.specs.Stamp.{StampParts}
use Rattle.fix_tags.specs.declared.envelope.Envelope.{Envelope}
use Rattle.fix_tags.specs.declared.tag_fault.TagFault.{TagFault}
use Rattle.leg.specs.LegId.{LegIdParts}
use Rattle.leg.specs.declared.placed_leg.PlacedLeg.{PlacedLeg}
use Rattle.dialect.specs.declared.note.Note.{Note}
use Rattle.dialect.specs.Wording.{Wording}
use Rattle.link.specs.Traffic.{Tells, Takes, TakesPart, Stays}
use Rattle.session_core.specs.declared.session_call.SessionCall.{SessionCall}
use Rattle.session_core.specs.declared.session_call.SessionCall.TheVariants as call
use Rattle.session_core.specs.declared.step.Step.{Step}
use Rattle.session_core.specs.declared.phase.Phase.{Phase}
use Rattle.session_core.specs.declared.phase.Phase.TheVariants as phase
use Rattle.session_core.specs.Session.{SessionParts, is_connected}
use Rattle.session_core.specs.Turn.{StepParts}
use Rattle.session_core.specs.Receiving.{confirm}
use Rattle.session_core.specs.Calling.{broken, malformed}
use Rattle.session_core.specs.Trial.{called, after_calls}
use Rattle.session_core.specs.CallResult.{IsStep}
use Rattle.release_lock.specs.Queues.{Took}
use Rattle.exec_collector.specs.Seats.{Seat}
use Rattle.session_worker.specs.declared.reading.Heard.{Heard}
use Rattle.session_worker.specs.declared.reading.Heard.TheVariants as heard
use Rattle.session_worker.specs.declared.withdrawal_counts.WithdrawalCounts.{WithdrawalCounts}
use Rattle.session_worker.specs.Hearing.{Said, said_with, said_after, Hears, ReaderOn}
use Rattle.session_worker.specs.Booking.{booked_by}
use Rattle.session_worker.specs.Speaking.{Wire, Speak, TakesFirst}
use Rattle.session_worker.specs.Events.{WorkerEvent, WorkerParts, Lasting, lasting, calls_in, calls_of, legs_in, withdrawn_by, AreHeeded, Goes}
use Rattle.session_worker.specs.Events.WorkerEvent.{Calls, Drops, Fails}
use Rattle.session_worker.specs.Keeping.{Told, TellsEvents, heard_call}

-- a session, what its link tells, what its reader has, and what its journal was told
pub record SessionIoParts : Type 0 where
  pub session : SessionParts
  pub wire : Wire
  pub stream : Stream
  pub told : Told

abbrev pub io_of : SessionParts → Wire → Stream → Told → SessionIoParts
io_of session wire stream told = record { session = session; wire = wire; stream = stream; told = told }

-- while there is a connection the reader was fed all bytes read on it, and gave frames that say this
abbrev pub IsHearing : Said → SessionIoParts → Type 0
IsHearing said x = is_connected x.session.phase ≡ true → ReaderOn said x.wire x.stream

-- the calls of the session say what went over the link
abbrev pub SpeaksOn : Wording → SessionIoParts → List SessionCall → SessionIoParts → Type 0
SpeaksOn w before calls after = (said : Said) → IsHearing said before
    → Speak w before.session said calls before.wire after.wire × IsHearing (said_after said calls) after

-- a session as it was, or with its connection given up
abbrev pub MayBreak : SessionParts → SessionParts → Type 0
MayBreak before after = (after ≡ before) ⊎ (after ≡ broken before)

-- the session is as it was, nothing went over the link, and the lines of these events were told
pub record StandsStill (events : List WorkerEvent) (before after : SessionIoParts) : Type 0 where
  pub session : after.session ≡ before.session
  pub wire : Tells before.wire after.wire Stays
  pub stream : after.stream ≡ before.stream
  pub told : TellsEvents before.told events after.told

-- the session is as it was; or the connection was given up, and that was told
abbrev pub MayGiveUp : SessionIoParts → SessionIoParts → Type 0
MayGiveUp before after =
    ((after.session ≡ before.session) × TellsEvents before.told [] after.told)
    ⊎ ((after.session ≡ broken before.session) × TellsEvents before.told (Calls call.Broken ∷ []) after.told)

-- a seat but for its shares: what lasts of it, the notes booked on it, and the legs asked for
pub record BesideShares : Type 0 where
  pub lasts : Lasting
  pub booked : List Note
  pub asked : List LegIdParts

abbrev pub beside_shares : Seat → BesideShares
beside_shares seat = record { lasts = lasting seat; booked = seat.booked; asked = seat.asked }

-- the book was asked to withdraw these legs too
abbrev pub asked_too : List LegIdParts → BesideShares → BesideShares
asked_too ids told = record told { asked = told.asked ++ ids }

-- a leg that wasn't sent
abbrev pub unsent : PlacedLeg → Bool → List LegIdParts
unsent leg true = []
unsent leg false = leg.leg.id ∷ []

-- calls of the session, as events
abbrev pub calling : List SessionCall → List WorkerEvent
calling calls = map (λ made. Calls made) calls

-- a session as it was, and no note was booked; or the note was booked, if there is one, and confirmed, which was told
abbrev pub MayBook : Option Note → SessionParts → List Note → Told → SessionParts → List Note → Told → Type 0
MayBook given before booked told after booked_after told_after =
    ((after ≡ before) × (booked_after ≡ booked) × TellsEvents told [] told_after)
    ⊎ ((note : Note) × (given ≡ Some note) × (after ≡ confirm before) × (booked_after ≡ booked ++ note ∷ [])
    × TellsEvents told (Calls call.Confirm ∷ []) told_after)

-- these bytes were handed to the reader; or the connection was given up
abbrev pub TakesIn : List ℕ → SessionIoParts → SessionIoParts → Type 0
TakesIn bytes before after =
    ((after.session ≡ before.session) × (after.stream ≡ fed before.stream bytes)
    × TellsEvents before.told [] after.told)
    ⊎ ((after.session ≡ broken before.session) × TellsEvents before.told (Calls call.Broken ∷ []) after.told)

-- these bytes were written; or the first of them, and the connection was given up, which was told
abbrev pub Writes : List ℕ → SessionIoParts → SessionIoParts → Type 0
Writes bytes before after =
    ((after.session ≡ before.session) × Tells before.wire after.wire (Takes bytes)
    × TellsEvents before.told [] after.told)
    ⊎ ((after.session ≡ broken before.session) × Tells before.wire after.wire (TakesPart bytes)
    × TellsEvents before.told (Calls call.Broken ∷ []) after.told)

-- some calls, none of which is to send a leg, books a note or withdraws a leg
pub record Moves (w : Wording) (before after : SessionIoParts) : Type 0 where
  pub calls : List SessionCall
  pub session : after.session ≡ after_calls w.decoding before.session calls
  pub no_leg : legs_in calls ≡ []
  pub no_note : (waiting : Option Note) → booked_by w.decoding before.session waiting calls ≡ []
  pub no_withdrawal : withdrawn_by w.decoding before.session (calling calls) ≡ []
  pub speaks : SpeaksOn w before calls after
  pub tells : TellsEvents before.told (calling calls) after.told

-- the session was to send a leg, and did or didn't: that call and others, or the leg failed
pub record Hands (w : Wording) (leg : PlacedLeg) (sent : Bool) (before after : SessionIoParts) : Type 0 where
  pub event : WorkerEvent
  pub of_leg : (event ≡ Calls (call.SendLeg leg.ordinal leg.leg)) ⊎ (event ≡ Fails leg)
  pub calls : List SessionCall
  pub session : after.session ≡ after_calls w.decoding before.session (calls_in event ++ calls)
  pub no_leg : legs_in calls ≡ []
  pub no_note : (waiting : Option Note) → booked_by w.decoding before.session waiting (calls_in event ++ calls) ≡ []
  pub withdraws : withdrawn_by w.decoding before.session (event ∷ calling calls) ≡ unsent leg sent
  pub speaks : SpeaksOn w before (calls_in event ++ calls) after
  pub tells : TellsEvents before.told (event ∷ calling calls) after.told

-- a call that neither dials nor sends a leg, and books no note
abbrev pub IsPlain : SessionCall → Type 0
IsPlain call.Confirm = ⊥
IsPlain call.Connect = ⊥
IsPlain call.Broken = ⊥
IsPlain (call.SendLeg ordinal leg) = ⊥
IsPlain _ = Unit {0}

-- such a call gave a step
pub record Gave (w : Wording) (made : SessionCall) (before : SessionParts) (step : Step)
    (after : SessionParts) : Type 0 where
  pub plain : IsPlain made
  pub said : StepParts
  pub adds : called w.decoding before made ≡ (Some said, after)
  pub stamp : StampParts
  pub is_step : IsStep w.encoding stamp said step

-- one did, which was told, and what the step wants isn't done yet
pub record Asks (w : Wording) (before : SessionIoParts) (step : Step) (after : SessionIoParts) : Type 0 where
  pub made : SessionCall
  pub gave : Gave w made before.session step after.session
  pub tells : TellsEvents before.told (Calls made ∷ []) after.told
  pub wire : Tells before.wire after.wire Stays
  pub hears : (said : Said) → IsHearing said before
      → Hears said made before.wire × IsHearing (said_with said made) after

-- the next message was received, and this was what its frame said
pub record Receives (w : Wording) (before : SessionParts) (stream : Stream) (step : Step)
    (after : SessionParts) : Type 0 where
  pub fields : List Tagged
  pub envelope : Envelope
  pub next : (next_read stream).frame ≡ Some fields
  pub says : envelope_read fields ≡ Ok envelope
  pub gave : Gave w (call.Receive envelope) before step after

-- both have logged on, and the session hasn't logged out
abbrev pub is_logged_on : Phase → Bool
is_logged_on phase.Settling = true
is_logged_on phase.Up = true
is_logged_on phase.Closing = true
is_logged_on _ = false

-- a message that is a Logout
abbrev pub is_logout : Body → Bool
is_logout (body.Session admin.Logout) = true
is_logout _ = false

-- the next message is a Logout with which the exchange ends such a connection
pub record IsParting (before : SessionParts) (stream : Stream) : Type 0 where
  pub fields : List Tagged
  pub envelope : Envelope
  pub next : (next_read stream).frame ≡ Some fields
  pub says : envelope_read fields ≡ Ok envelope
  pub logged_on : is_logged_on before.phase ≡ true
  pub logout : is_logout envelope.body ≡ true

-- what came of the next message
abbrev pub HeardGives : Wording → SessionParts → Stream → Heard → SessionParts → Type 0
HeardGives w before stream heard.Nothing after = (after ≡ before) × ((next_read stream).frame ≡ None)
HeardGives w before stream (heard.Step step words) after = Receives w before stream step after
HeardGives w before stream heard.Malformed after =
    (fields : List Tagged) × (fault : TagFault) × ((next_read stream).frame ≡ Some fields)
    × (envelope_read fields ≡ Err fault) × (after ≡ (malformed before).1)
HeardGives w before stream heard.Parted after = (after ≡ before) × IsParting before stream
HeardGives w before stream heard.OutOfMemory after = after ≡ before

-- the reader then stands behind it, unless memory was wanted
abbrev pub StandsBehind : Heard → Stream → Stream → Type 0
StandsBehind heard.OutOfMemory before after = Unit {0}
StandsBehind _ before after = after ≡ (next_read before).stream

-- the journal was told that the next message came; nothing where none did, or memory was wanted
abbrev pub HeardTold : Stream → Heard → Told → Told → Type 0
HeardTold stream (heard.Step step words) before after =
    TellsEvents before (Calls (heard_call (next_read stream).frame) ∷ []) after
HeardTold stream heard.Malformed before after =
    TellsEvents before (Calls (heard_call (next_read stream).frame) ∷ []) after
HeardTold stream heard.Nothing before after = after ≡ before
HeardTold stream heard.Parted before after = after ≡ before
HeardTold stream heard.OutOfMemory before after = after ≡ before

-- what came of a call that may give a step: it did, and what it wants isn't done yet; or calls that gave none
abbrev pub AsksOrMoves : Wording → SessionIoParts → Option Step → SessionIoParts → Type 0
AsksOrMoves w before None after = Moves w before after
AsksOrMoves w before (Some step) after = Asks w before step after

-- a worker in the middle of a turn: its session over its link, what it took, its seat, and what became of the legs that
-- it asked the book to withdraw
pub record WorkerStateParts : Type 0 where
  pub io : SessionIoParts
  pub took : Took
  pub seat : Seat
  pub withdrawn : WithdrawalCounts

abbrev pub worker_in : WorkerStateParts → WorkerParts
worker_in p =
    record { session = p.io.session; took = p.took; seat = p.seat; wire = p.io.wire; told = p.io.told }

-- a worker before and after some events, what went over its link meanwhile, and what its journal was told
pub record Does (w : Wording) (before after : WorkerStateParts) : Type 0 where
  pub events : List WorkerEvent
  pub goes : Goes w.decoding (worker_in before) events (worker_in after)
  pub speaks : SpeaksOn w before.io (calls_of events) after.io
  pub tells : TellsEvents before.io.told events after.io.told

-- the same, where its venue was held meanwhile, or wasn't
pub record Heeds (w : Wording) (held : Bool) (before after : WorkerStateParts) : Type 0 where
  pub does : Does w before after
  pub heeded : AreHeeded held w.decoding before.io.session does.events

-- a leg was handed to the session; where that didn't send it, the book was asked to withdraw it
pub record Sends (w : Wording) (leg : PlacedLeg) (before after : WorkerStateParts) : Type 0 where
  pub sent : Bool
  pub hands : Hands w leg sent before.io after.io
  pub seat : beside_shares after.seat ≡ asked_too (unsent leg sent) (beside_shares before.seat)

-- a worker before and after it dropped some legs, each of which was told, and the book was asked to withdraw it
pub record Drains (before after : WorkerStateParts) : Type 0 where
  pub legs : List PlacedLeg
  pub io : StandsStill (map (λ leg. Drops leg) legs) before.io after.io
  pub taken : after.took.taken ≡ before.took.taken ++ legs
  pub venue : after.took.venue ≡ before.took.venue
  pub seat : beside_shares after.seat ≡ asked_too (map (λ leg. leg.leg.id) legs) (beside_shares before.seat)

-- what a step wanted was done: the book was asked to withdraw the legs that it names, its note, if it had one, was
-- booked and confirmed, and its frames were written; or the first bytes of them, and the connection was given up
pub record CarriesOut (withdrawn : List LegIdParts) (note : Option Note) (bytes : List ℕ)
    (before after : WorkerStateParts) : Type 0 where
  pub noted : SessionParts
  pub told : Told
  pub notes : MayBook note before.io.session before.seat.booked before.io.told noted after.seat.booked told
  pub writes : ((after.io.session ≡ noted) × Tells before.io.wire after.io.wire (Takes bytes)
      × TellsEvents told [] after.io.told)
      ⊎ ((after.io.session ≡ broken noted) × Tells before.io.wire after.io.wire (TakesFirst bytes)
      × TellsEvents told (Calls call.Broken ∷ []) after.io.told)
  pub took : after.took ≡ before.took
  pub seat : lasting after.seat ≡ lasting before.seat
  pub asked : after.seat.asked ≡ before.seat.asked ++ withdrawn
  pub stream : after.io.stream ≡ before.io.stream

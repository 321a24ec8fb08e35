-- How messages come over a worker's link, along what happens at its venue: by bytes that the link tells.
use Rattle.std.specs.Prelude.{◌≡◌, ◌<◌, ◌⊎◌, ℕ, List, [], ◌∷◌, ◌++◌, Some, None, Ok, IfSome}
use Rattle.std.specs.List.{AllByRecursion, Contains}
use Rattle.fix_tags.specs.Config.{ConfigParts, IsConfig}
use Rattle.fix_tags.specs.declared.envelope.Envelope.{Envelope}
use Rattle.leg.specs.Leg.{IsLeg}
use Rattle.leg.specs.declared.leg.Leg.{Leg}
use Rattle.leg.specs.declared.placed_leg.PlacedLeg.{PlacedLeg}
use Rattle.dialect.specs.declared.message.Message.{Message}
use Rattle.dialect.specs.declared.outgoing.Outgoing.{Outgoing}
use Rattle.dialect.specs.Message.{decoded}
use Rattle.dialect.specs.Wording.{Encoding, Decoding, Wording}
use Rattle.dialect.specs.Writable.{IsWritable}
use Rattle.session_core.specs.declared.session_call.SessionCall.{SessionCall}
use Rattle.session_core.specs.declared.session_call.SessionCall.TheVariants as call
use Rattle.session_core.specs.Session.{SessionParts, new_session}
use Rattle.session_core.specs.Calling.{broken}
use Rattle.session_core.specs.Trial.{called}
use Rattle.exchange_core.specs.Acceptance.{Carried, RuleState, rule_opening, May}
use Rattle.exchange_core.specs.Keeping.{carried}
use Rattle.session_worker.specs.Events.{WorkerParts, calls_of, taken_of}
use Rattle.session_worker.specs.Events.WorkerEvent.{Calls, Drops, Fails}
use Rattle.session_worker.specs.Hearing.{Said, said_with, AreFirstSaid}
use Rattle.session_worker.specs.Speaking.{Wire, Speak}
use Rattle.worker_line.specs.Happening.{VenueEvent, works_of, MayAllHappen}
use Rattle.worker_line.specs.Happening.VenueEvent.{Works, Exchanges, Releases}
use Rattle.worker_line.specs.Wire.{AreFirstOf}
use Rattle.worker_line.specs.WorkerTheorem.{released_line, Ran}

-- a reader reads this message of these bytes
pub record IsReadOf (read : Decoding) (bytes : List ℕ) (m : Message) : Type 0 where
  pub said : Said
  pub first : AreFirstSaid bytes said
  pub envelope : Envelope
  pub there : Contains said (Ok envelope)
  pub is : decoded read envelope ≡ m

-- it reads it of the bytes that were written on the connection that was dialled last, which is the session's present
-- one once it has begun one, where it had begun so many before
abbrev pub Brings : Decoding → ℕ → SessionParts → Wire → Carried → Type 0
Brings read before s None m = ⊥
Brings read before s (Some []) m = ⊥
Brings read before s (Some (last ∷ others)) m =
    (before < s.connection) × (message : Message) × IsReadOf read last.written message
    × (m ≡ carried s.connection message)

-- the bytes are the first ones of the frames of messages that the exchange wrote in this connection, and that can be
-- written
pub record AreOfExchange (w : Encoding) (connection : ℕ) (from : List Carried) (bytes : List ℕ) : Type 0 where
  pub written : List Outgoing
  pub writable : AllByRecursion IsWritable written
  pub by_exchange : AllByRecursion (λ out. Contains from (carried connection out.message)) written
  pub first : AreFirstOf w written bytes

-- where a message is received, so are the bytes that were read till then on the connection that was dialled last
abbrev pub AreFrom : Encoding → SessionParts → List Carried → Wire → Type 0
AreFrom w s from None = ⊥
AreFrom w s from (Some []) = ⊥
AreFrom w s from (Some (last ∷ others)) = AreOfExchange w s.connection from last.read

abbrev pub HearsFrom : Encoding → SessionParts → List Carried → SessionCall → Wire → Type 0
HearsFrom w s from (call.Receive envelope) heard = AreFrom w s from heard
HearsFrom w s from made heard = Unit {0}

-- at each event what comes to either end came over the link, where so many connections were begun before, and these
-- messages came to the exchange's end: a message comes to the exchange once a reader reads it of the bytes that the
-- link told as written after some call, and what the session receives is of the exchange
abbrev pub AllCome : (w : Wording) (before : ℕ) (came : Carried → Type 0) (s : SessionParts) (said : Said)
    (from : List Carried) (events : List VenueEvent) (wire after : Wire)
    → Speak w s said (calls_of (works_of events)) wire after → Type 0
AllCome w before came s said from [] wire after speak = Unit {0}
AllCome w before came s said from (Works (Calls made) ∷ events) wire after speak =
    HearsFrom w.encoding s from made speak.1.heard
    × AllCome w before (λ m. came m ⊎ Brings w.decoding before (called w.decoding s made).1 speak.0 m)
    (called w.decoding s made).1 (said_with said made) from events speak.0 after speak.2
AllCome w before came s said from (Works (Drops leg) ∷ events) wire after speak =
    AllCome w before came s said from events wire after speak
AllCome w before came s said from (Works (Fails leg) ∷ events) wire after speak =
    AllCome w before came (broken s) said from events speak.0 after speak.2
AllCome w before came s said from (Exchanges coming t written ∷ events) wire after speak =
    IfSome coming came × AllCome w before came s said (from ++ written) events wire after speak
AllCome w before came s said from (Releases legs ∷ events) wire after speak =
    AllCome w before came s said from events wire after speak

-- the exchange keeps the rules at each of its steps
abbrev pub ExchangeKeeps : RuleState → List VenueEvent → Type 0
ExchangeKeeps x [] = Unit {0}
ExchangeKeeps x (Works event ∷ events) = ExchangeKeeps x events
ExchangeKeeps x (Exchanges coming t written ∷ events) = May x coming t written × ExchangeKeeps t events
ExchangeKeeps x (Releases legs ∷ events) = ExchangeKeeps x events

-- each leg that was taken is in range
abbrev pub LegsAreInRange : List PlacedLeg → Type 0
LegsAreInRange taken = AllByRecursion (λ placed. IsLeg placed.leg) taken

-- of a worker that ran: its bytes went over the link as its calls say. And if what comes to either end came by them,
-- which only a link can show that tells its traffic, and the exchange keeps the rules, then all of it may happen
pub record GoesByBytes (w : Wording) (config : ConfigParts) (legs : List Leg) (events : List VenueEvent)
    (wire after : Wire) : Type 0 where
  pub speak : Speak w (new_session config) [] (calls_of (works_of events)) wire after
  pub happens : AllCome w 0 (λ m. ⊥) (new_session config) [] [] events wire after speak
      → ExchangeKeeps rule_opening events → MayAllHappen w.decoding (released_line config legs) events

abbrev pub TheWireTheorem : Wording → Type 0
TheWireTheorem w = (config : ConfigParts) (legs : List Leg) (events : List VenueEvent) (after : WorkerParts)
    → IsConfig config → (ran : Ran w config events after) → LegsAreInRange (taken_of (works_of events))
    → GoesByBytes w config legs events ran.before.wire after.wire

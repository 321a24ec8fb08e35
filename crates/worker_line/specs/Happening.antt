-- What happens at a venue while its worker runs, in order: what the worker does, with steps of the exchange and
-- releases between, wherever they come; and the line that they lead to.
use Rattle.std.specs.Prelude.{◌+◌, List, [], ◌∷◌, ◌++◌, length, drop, Option, IfSome}
use Rattle.std.specs.List.{Contains}
use mathlib.Core.List.{IsPrefix}
use Rattle.leg.specs.declared.leg.Leg.{Leg}
use Rattle.dialect.specs.Message.{decoded}
use Rattle.dialect.specs.Wording.{Decoding}
use Rattle.session_core.specs.declared.session_call.SessionCall.{SessionCall}
use Rattle.session_core.specs.declared.session_call.SessionCall.TheVariants as call
use Rattle.session_core.specs.Receiving.{receive}
use Rattle.session_core.specs.Calling.{broken}
use Rattle.session_core.specs.Trial.{Addition, called}
use Rattle.exchange_core.specs.Acceptance.{Carried, RuleState, May}
use Rattle.exchange_core.specs.Keeping.{carried}
use Rattle.release_lock.specs.Queues.{placed_from}
use Rattle.venue_line.specs.Line.{Line, in_connection_of, after_hearing, after_booking}
use Rattle.session_worker.specs.Speaking.{messages_in}
use Rattle.session_worker.specs.Events.{WorkerEvent, taken_in}
use Rattle.session_worker.specs.Events.WorkerEvent.{Calls, Drops, Fails}

pub data VenueEvent : Type 0 where
  -- the worker calls its session, or does something with a leg that it took
  Works : WorkerEvent → VenueEvent
  -- the exchange takes a step, by itself or at a message: so it stands afterwards, and this it wrote
  Exchanges : Option Carried → RuleState → List Carried → VenueEvent
  -- legs are released to the venue
  Releases : List Leg → VenueEvent

-- what the worker does in them
abbrev pub works_of : List VenueEvent → List WorkerEvent
works_of [] = []
works_of (Works event ∷ events) = event ∷ works_of events
works_of (_ ∷ events) = works_of events

-- the line after a call that gave this: what it says is written in the session's connection
abbrev pub after_addition : Line → Addition → Line
after_addition a said = record a {
  session = said.1;
  to_exchange = a.to_exchange ++ in_connection_of said.1 (messages_in said.0);
}

-- the line after a call: the note of a message that is received waits for its Confirm
abbrev pub after_called : Decoding → Line → SessionCall → Line
after_called read a (call.Receive envelope) = after_hearing a (receive a.session (decoded read envelope))
after_called read a call.Confirm = after_booking a
after_called read a made = after_addition a (called read a.session made)

-- the line after what the worker did: where a leg fails the connection is given up
abbrev pub after_doing : Decoding → Line → WorkerEvent → Line
after_doing read a (Calls made) = after_called read a made
after_doing read a (Drops leg) = a
after_doing read a (Fails leg) = record a { session = broken a.session }

-- the line after an event: a leg that the worker took has left the desk
abbrev pub after_event : Decoding → Line → VenueEvent → Line
after_event read a (Works event) =
    record (after_doing read a event) { left = length (taken_in event) + a.left }
after_event read a (Exchanges coming t written) =
    record a { exchange = t; from_exchange = a.from_exchange ++ written }
after_event read a (Releases legs) = record a { released = a.released ++ legs }

abbrev pub after_events : Decoding → Line → List VenueEvent → Line
after_events read a [] = a
after_events read a (event ∷ events) = after_events read (after_event read a event) events

-- the line at each moment: before the events, and after each
abbrev pub moments_of : Decoding → Line → List VenueEvent → List Line
moments_of read a [] = a ∷ []
moments_of read a (event ∷ events) = a ∷ moments_of read (after_event read a event) events

-- a message that the worker receives is one that the exchange wrote in the present connection
abbrev pub MayHear : Decoding → Line → WorkerEvent → Type 0
MayHear read a (Calls (call.Receive envelope)) =
    Contains a.from_exchange (carried a.session.connection (decoded read envelope))
MayHear read a _ = Unit {0}

-- and the exchange keeps the rules, at a message that was written to it if it has one
abbrev pub MayHappen : Decoding → Line → VenueEvent → Type 0
MayHappen read a (Works event) = MayHear read a event
MayHappen read a (Exchanges coming t written) =
    IfSome coming (Contains a.to_exchange) × May a.exchange coming t written
MayHappen read a (Releases legs) = Unit {0}

abbrev pub MayAllHappen : Decoding → Line → List VenueEvent → Type 0
MayAllHappen read a [] = Unit {0}
MayAllHappen read a (event ∷ events) = MayHappen read a event × MayAllHappen read (after_event read a event) events

-- a leg that the worker takes is the next one of those released till then, under its ordinal
abbrev pub TakesNext : Line → VenueEvent → Type 0
TakesNext a (Works event) = IsPrefix (taken_in event) (drop a.left (placed_from 1 a.released))
TakesNext a _ = Unit {0}

abbrev pub AllTakeNext : Decoding → Line → List VenueEvent → Type 0
AllTakeNext read a [] = Unit {0}
AllTakeNext read a (event ∷ events) = TakesNext a event × AllTakeNext read (after_event read a event) events

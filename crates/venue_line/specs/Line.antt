-- A line: one venue's session and an exchange that keeps the rules, whichever it is, with the legs released to the
-- venue and every message that was ever written between the two.
use Rattle.std.specs.Prelude.{◌≡◌, ◌≤◌, ◌⊎◌, ℕ, suc, true, List, [], ◌∷◌, ◌++◌, length, map, Option, Some, None, Ok, IfSome, if◌then◌else◌}
use Rattle.std.specs.List.{Contains}
use Rattle.fix_tags.specs.Config.{ConfigParts}
use Rattle.leg.specs.Numbered.{numbered}
use Rattle.leg.specs.declared.leg.Leg.{Leg}
use Rattle.dialect.specs.declared.note.Note.{Note}
use Rattle.dialect.specs.declared.message.Message.{Message}
use Rattle.session_core.specs.Session.{SessionParts, new_session, is_connected}
use Rattle.session_core.specs.Turn.{Turn}
use Rattle.session_core.specs.Receiving.{receive, confirm}
use Rattle.session_core.specs.Calling.{answers, connect, send_leg, quiet, silent, close, broken, abandon}
use Rattle.exchange_core.specs.Acceptance.{Carried, RuleState, rule_opening, May}
use Rattle.exchange_core.specs.Keeping.{carried}

pub record Line : Type 0 where
  -- the legs released to the venue, and how many of them left the desk, the first ones
  pub released : List Leg
  pub left : ℕ
  pub session : SessionParts
  pub exchange : RuleState
  -- every message ever written to the exchange and by it
  pub to_exchange : List Carried
  pub from_exchange : List Carried
  -- the note that was given last and not booked at once: it waits while the session has one pending
  pub waiting : Option Note
  -- the notes that were booked
  pub given : List Note

-- a line on which nothing has happened
abbrev pub new_line : ConfigParts → Line
new_line config = record {
  released = [];
  left = 0;
  session = new_session config;
  exchange = rule_opening;
  to_exchange = [];
  from_exchange = [];
  waiting = None;
  given = [];
}

-- what a session wrote in its present connection
abbrev pub in_connection_of : SessionParts → List Message → List Carried
in_connection_of session messages = map (carried session.connection) messages

-- the line after a call that writes one message
abbrev pub after_message : Line → Message → SessionParts → Line
after_message a message session =
    record a { session = session; to_exchange = a.to_exchange ++ in_connection_of session (message ∷ []) }

-- a note, if there is one, as a list
abbrev pub noted : Option Note → List Note
noted None = []
noted (Some note) = note ∷ []

-- the line after a turn of the session
abbrev pub after_turn : Line → Turn → Line
after_turn a turn = record a {
  session = turn.session;
  to_exchange = a.to_exchange ++ in_connection_of turn.session turn.step.written;
  given = a.given ++ noted turn.step.note;
}

-- the line after another call, which hands on no note
abbrev pub after_call : Line → Turn → Line
after_call a turn =
    record a { session = turn.session; to_exchange = a.to_exchange ++ in_connection_of turn.session turn.step.written }

-- the note that was given last: that of a step, if it has one, or an earlier one
abbrev pub latest : Option Note → Option Note → Option Note
latest earlier None = earlier
latest earlier (Some note) = Some note

-- the line after a message was heard, whose note waits if it has one
abbrev pub after_hearing : Line → Turn → Line
after_hearing a turn = record (after_call a turn) { waiting = latest a.waiting turn.step.note }

-- the line after the session's note was confirmed: where one was pending, that which waits is booked
abbrev pub after_booking : Line → Line
after_booking a = record a {
  session = confirm a.session;
  given = a.given ++ (if a.session.current.pending then noted a.waiting else []);
}

-- the turn of a call beside connecting, sending and receiving
abbrev pub IsCallOf : SessionParts → Turn → Type 0
IsCallOf s turn = (quiet s ≡ answers turn) ⊎ (silent s ≡ answers turn) ⊎ (close s ≡ answers turn)

-- what may happen on a line
pub data LineStep (a b : Line) : Type 0 where
  -- legs are released behind those that were
  releases : (more : List Leg) → b ≡ record a { released = a.released ++ more } → LineStep a b
  -- the next leg leaves the desk and isn't sent
  drops : suc a.left ≤ length a.released → b ≡ record a { left = suc a.left } → LineStep a b
  -- the next leg leaves the desk and is sent under its ordinal
  sends : (leg : Leg) (message : Message) (session : SessionParts) → numbered (suc a.left) a.released ≡ Some leg
      → send_leg a.session (suc a.left) leg ≡ (Ok message, session)
      → b ≡ record (after_message a message session) { left = suc a.left } → LineStep a b
  connects : (message : Message) (session : SessionParts) → connect a.session ≡ (Ok message, session)
      → b ≡ after_message a message session → LineStep a b
  -- a message that the exchange wrote in the present connection comes, now or again, and what its note is about is
  -- booked
  receives : (m : Message) → Contains a.from_exchange (carried a.session.connection m)
      → is_connected a.session.phase ≡ true
      → b ≡ record (after_turn a (receive a.session m)) { session = confirm (receive a.session m).session }
      → LineStep a b
  -- such a message comes, and its note, if it has one, waits
  hears : (m : Message) → Contains a.from_exchange (carried a.session.connection m)
      → b ≡ after_hearing a (receive a.session m) → LineStep a b
  -- the session's note is confirmed, and booked
  confirms : b ≡ after_booking a → LineStep a b
  calls : (turn : Turn) → IsCallOf a.session turn → b ≡ after_call a turn → LineStep a b
  breaks : b ≡ record a { session = broken a.session } → LineStep a b
  abandons : b ≡ record a { session = abandon a.session } → LineStep a b
  -- the exchange takes a step that the rules allow: by itself, or at a message that was written to it, now or again
  exchanges : (coming : Option Carried) (t : RuleState) (written : List Carried)
      → IfSome coming (Contains a.to_exchange)
      → May a.exchange coming t written
      → b ≡ record a { exchange = t; from_exchange = a.from_exchange ++ written } → LineStep a b

-- lines, each of which a step makes of the one before
abbrev pub AreSteps : Line → List Line → Type 0
AreSteps a [] = Unit {0}
AreSteps a (b ∷ lines) = LineStep a b × AreSteps b lines

-- A worked run, computed: two legs are sent, and the first one is accepted and reported. The report is booked, and the
-- dispatcher killed before that is in the journal, and before the second order is on the wire. It is started again: the
-- report comes again and is booked, the first leg is taken, the second one withdrawn and its number filled over.
use Rattle.std.specs.Prelude.{◌≡◌, ℕ, false, List, [], ◌∷◌, ◌++◌, Option, Some, None, Ok}
use Rattle.leg.specs.declared.leg.Leg.{Leg}
use Rattle.leg.specs.declared.leg_state.LegState.TheVariants.{Taken, Withdrawn}
use Rattle.dialect.specs.declared.note.Note.TheVariants as note
use Rattle.dialect.specs.declared.content.Content.{Content}
use Rattle.dialect.specs.declared.content.Content.TheVariants.{ExecutionReport}
use Rattle.resend.specs.Log.{Entry}
use Rattle.resend.specs.Log.Entry.{Admin, Sent}
use Rattle.session_core.specs.declared.phase.Phase.{Phase}
use Rattle.session_core.specs.declared.phase.Phase.TheVariants.{Down, Settling, Up}
use Rattle.session_core.specs.Session.{SessionParts, ConnectionParts, leg_state}
use Rattle.session_core.specs.Calling.{doubted}
use Rattle.session_core.specs.Example.{config, report}
use Rattle.exchange_core.specs.Acceptance.{Carried}
use Rattle.venue_line.specs.Line.{Line, new_line}
use Rattle.venue_line.specs.Worked.{first, second, at, logon, fence, answer, order, asks, fill, standing, connecting, sending, receiving, exchanging, two, up_with, till_up}
use Rattle.line_restart.specs.Lives.{Life, AreLives}

-- the first leg's report, in a connection
abbrev pub reported : ℕ → Carried
reported connection = at connection 3 (ExecutionReport (Ok report))

-- a session whose settled number is 2, with this phase, log, connection and expected number; and what of it belongs to
-- the connection
abbrev pub connection_of : ℕ → List ℕ → Option ℕ → ConnectionParts
connection_of logon_number fences requested = record {
  logon_number = logon_number;
  fences = fences;
  closing_fence = None;
  requested = requested;
  pending = false;
  silent = false;
}

abbrev pub session_of : Phase → List Entry → ℕ → ConnectionParts → ℕ → SessionParts
session_of phase log connection current expected = record {
  config = config;
  phase = phase;
  log = log;
  settled = 2;
  connection = connection;
  current = current;
  expected = expected;
  close_asked = false;
}

-- own numbers with a report under the third, and with others behind it
abbrev pub three : List (Option Content)
three = two ++ Some (ExecutionReport (Ok report)) ∷ []

abbrev pub five : List (Option Content)
five = three ++ None ∷ None ∷ []

abbrev pub six : List (Option Content)
six = five ++ None ∷ []

-- two legs are released, and the session is up
abbrev pub legs : List Leg
legs = first ∷ second ∷ []

abbrev pub up : Line
up = up_with legs

-- the first leg is sent, accepted and reported; the second one is sent
abbrev pub first_sent : Line
first_sent = sending 1 first up

abbrev pub first_accepted : Line
first_accepted = exchanging (standing 1 4 (first ∷ []) three) (reported 1 ∷ []) first_sent

abbrev pub second_sent : Line
second_sent = sending 2 second first_accepted

-- all this is in the journal. The report comes and is booked, and then the dispatcher is killed
abbrev pub booked : Line
booked = receiving (reported 1) second_sent

abbrev pub one : Life
one = record {
  start = new_line config;
  durable = till_up legs ++ first_sent ∷ first_accepted ∷ second_sent ∷ [];
  lost = booked ∷ [];
}

-- it is started again. The exchange expects number 4, that of the second order, which never came to it, and asks for it
abbrev pub again : Line
again = record {
  released = legs;
  left = 2;
  session = session_of Down (Admin ∷ Admin ∷ Sent (doubted 1 first) ∷ Sent (doubted 2 second) ∷ []) 1
      (connection_of 1 [] None) 3;
  exchange = standing 1 4 (first ∷ []) three;
  to_exchange = logon 1 1 ∷ fence 1 2 ∷ order 1 3 first ∷ order 1 4 second ∷ [];
  from_exchange = logon 1 1 ∷ answer 1 2 2 ∷ reported 1 ∷ [];
  waiting = None;
  given = [];
}

abbrev pub logging_on_again : Line
logging_on_again = connecting again

abbrev pub asked_for : Line
asked_for = exchanging (standing 2 4 (first ∷ []) five) (logon 2 4 ∷ asks 2 5 4 ∷ []) logging_on_again

abbrev pub settling_again : Line
settling_again = receiving (logon 2 4) asked_for

-- the first leg is taken then, the second one withdrawn, and numbers 4 to 7 filled over
abbrev pub filled : Line
filled = record {
  released = legs;
  left = 2;
  session = session_of Settling
      (Admin
      ∷ Admin
      ∷ Sent (record { ordinal = 1; id = first.id; state = Taken })
      ∷ Sent (record { ordinal = 2; id = second.id; state = Withdrawn })
      ∷ Admin
      ∷ Admin
      ∷ Admin
      ∷ Admin
      ∷ []) 2 (connection_of 5 (7 ∷ 8 ∷ []) (Some 3)) 3;
  exchange = standing 2 4 (first ∷ []) five;
  to_exchange =
      logon 1 1
      ∷ fence 1 2
      ∷ order 1 3 first
      ∷ order 1 4 second
      ∷ logon 2 5
      ∷ asks 2 6 3
      ∷ fence 2 7
      ∷ fill 2 4 8
      ∷ fence 2 8
      ∷ [];
  from_exchange = logon 1 1 ∷ answer 1 2 2 ∷ reported 1 ∷ logon 2 4 ∷ asks 2 5 4 ∷ [];
  waiting = None;
  given = [];
}

-- the exchange takes the gap fill, and writes the report again; then the fence
abbrev pub fill_taken : Line
fill_taken = exchanging (standing 2 8 (first ∷ []) five) (reported 2 ∷ fill 2 4 6 ∷ []) filled

abbrev pub fence_taken_again : Line
fence_taken_again = exchanging (standing 2 9 (first ∷ []) six) (answer 2 6 8 ∷ []) fill_taken

abbrev pub booked_again : Line
booked_again = receiving (reported 2) fence_taken_again

abbrev pub passed_over : Line
passed_over = receiving (fill 2 4 6) booked_again

abbrev pub up_again : Line
up_again = receiving (answer 2 6 8) passed_over

abbrev pub other : Life
other = record {
  start = again;
  durable =
      logging_on_again
      ∷ asked_for
      ∷ settling_again
      ∷ filled
      ∷ fill_taken
      ∷ fence_taken_again
      ∷ booked_again
      ∷ passed_over
      ∷ up_again
      ∷ [];
  lost = [];
}

-- all of it may happen, and this it comes to
pub record IsBookedAgain : Type 0 where
  pub lives : AreLives one (other ∷ [])
  pub booked : booked.given ≡ note.Report report ∷ []
  pub journal : again.given ≡ []
  pub given : up_again.given ≡ note.Report report ∷ []
  pub accepted : up_again.exchange.intake.accepted ≡ first ∷ []
  pub taken : leg_state up_again.session 1 ≡ Some Taken
  pub withdrawn : leg_state up_again.session 2 ≡ Some Withdrawn
  pub up : up_again.session.phase ≡ Up

-- The words of worked lines: what is said in a connection, how an exchange stands, and the line after a call or a step.
use Rattle.std.specs.Prelude.{ℕ, false, List, [], ◌∷◌, ◌++◌, Option, Some, None, Ok, Err}
use Rattle.fix_tags.specs.declared.session_body.SessionBody.TheVariants.{Logon, Heartbeat, TestRequest, ResendRequest, GapFill}
use Rattle.leg.specs.declared.leg.Leg.{Leg}
use Rattle.dialect.specs.declared.message.Message.{Message}
use Rattle.dialect.specs.declared.content.Content.{Content}
use Rattle.dialect.specs.declared.content.Content.TheVariants.{Session, Order}
use Rattle.session_core.specs.Turn.{StepParts, fence_id}
use Rattle.session_core.specs.Receiving.{receive, confirm}
use Rattle.session_core.specs.Calling.{SessionAnswer, connect, send_leg, broken, close}
use Rattle.session_core.specs.Example.{config, from_b, leg}
use Rattle.exchange_core.specs.Acceptance.{Carried, RuleState}
use Rattle.venue_line.specs.Line.{Line, new_line, after_message, after_turn, after_call}

-- two legs of sweep 1
abbrev pub first : Leg
first = leg

abbrev pub second : Leg
second = record leg { id = record { sweep = 1; place = 2 } }

-- messages in their connections: Logons, the session's fences and their answers, orders, and requests and gap fills
abbrev pub at : ℕ → ℕ → Content → Carried
at connection number content = record { connection = connection; number = number; content = content }

abbrev pub logon : ℕ → ℕ → Carried
logon connection number = at connection number (Session (Logon 30 false None))

abbrev pub fence : ℕ → ℕ → Carried
fence connection number = at connection number (Session (TestRequest (fence_id number)))

abbrev pub answer : ℕ → ℕ → ℕ → Carried
answer connection number asked = at connection number (Session (Heartbeat (Some (fence_id asked))))

abbrev pub order : ℕ → ℕ → Leg → Carried
order connection number leg = at connection number (Order (Ok leg))

abbrev pub asks : ℕ → ℕ → ℕ → Carried
asks connection number begin = at connection number (Session (ResendRequest begin 0))

abbrev pub fill : ℕ → ℕ → ℕ → Carried
fill connection number new_number = at connection number (Session (GapFill new_number))

-- the exchange, where this connection is live, this number is expected, these legs are accepted, and this is carried
-- under its own numbers
abbrev pub standing : ℕ → ℕ → List Leg → List (Option Content) → RuleState
standing connection expected accepted own = record {
  intake = record {
    expected = expected;
    live = Some connection;
    last = connection;
    accepted = accepted;
    closed_at = None;
  };
  tests = [];
  refusable = [];
  others = [];
  own = own;
  unasked = [];
}

-- the line after a call of the session
abbrev pub after_said : Line → SessionAnswer Message → Line
after_said a (Ok message, session) = after_message a message session
after_said a (Err fault, session) = a

abbrev pub after_asked : Line → SessionAnswer StepParts → Line
after_asked a (Ok step, session) = after_call a (record { step = step; session = session })
after_asked a (Err fault, session) = a

abbrev pub connecting : Line → Line
connecting a = after_said a (connect a.session)

abbrev pub sending : ℕ → Leg → Line → Line
sending ordinal leg a = record (after_said a (send_leg a.session ordinal leg)) { left = ordinal }

abbrev pub closing : Line → Line
closing a = after_asked a (close a.session)

abbrev pub breaking : Line → Line
breaking a = record a { session = broken a.session }

-- after it received a message, whose note, if it has one, was booked
abbrev pub receiving : Carried → Line → Line
receiving m a =
    record (after_turn a (receive a.session (from_b m.number m.content))) {
      session = confirm (receive a.session (from_b m.number m.content)).session;
    }

-- after the exchange wrote this, and stands so
abbrev pub exchanging : RuleState → List Carried → Line → Line
exchanging t written a = record a { exchange = t; from_exchange = a.from_exchange ++ written }

-- two or four own numbers that carry nothing
abbrev pub two : List (Option Content)
two = None ∷ None ∷ []

abbrev pub four : List (Option Content)
four = two ++ None ∷ None ∷ []

-- legs are released; the session logs on, and its fence is answered: it is up
abbrev pub releasing : List Leg → Line
releasing legs = record (new_line config) { released = legs }

abbrev pub logging_on : List Leg → Line
logging_on legs = connecting (releasing legs)

abbrev pub logon_taken : List Leg → Line
logon_taken legs = exchanging (standing 1 2 [] (None ∷ [])) (logon 1 1 ∷ []) (logging_on legs)

abbrev pub settling : List Leg → Line
settling legs = receiving (logon 1 1) (logon_taken legs)

abbrev pub fence_taken : List Leg → Line
fence_taken legs = exchanging (standing 1 3 [] two) (answer 1 2 2 ∷ []) (settling legs)

abbrev pub up_with : List Leg → Line
up_with legs = receiving (answer 1 2 2) (fence_taken legs)

abbrev pub till_up : List Leg → List Line
till_up legs =
    releasing legs ∷ logging_on legs ∷ logon_taken legs ∷ settling legs ∷ fence_taken legs ∷ up_with legs ∷ []

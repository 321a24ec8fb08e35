-- Why the journal is written before the wire: runs, computed, in which an order, a gap fill or a Logout is on the wire
-- before its call is in the journal. Each is left unsafe by a restart.
use Rattle.std.specs.Prelude.{◌≡◌, ℕ, List, [], ◌∷◌, ◌++◌, Option, Some, None}
use Rattle.leg.specs.declared.leg.Leg.{Leg}
use Rattle.dialect.specs.declared.content.Content.{Content}
use Rattle.resend.specs.Log.Entry.{Admin, Sent}
use Rattle.session_core.specs.declared.phase.Phase.TheVariants.{Down}
use Rattle.session_core.specs.Calling.{doubted}
use Rattle.session_core.specs.Example.{config}
use Rattle.exchange_core.specs.Acceptance.{RuleState}
use Rattle.venue_line.specs.Line.{Line, new_line, AreSteps}
use Rattle.venue_line.specs.LineTheorem.{LineHolds}
use Rattle.venue_line.specs.Leading.{last_line}
use Rattle.venue_line.specs.Worked.{first, logon, fence, answer, order, asks, standing, connecting, sending, closing, breaking, receiving, exchanging, two, four, till_up}
use Rattle.line_restart.specs.Lives.{restarted}
use Rattle.line_restart.specs.Example.{connection_of, session_of, legs, up, first_sent}

-- an unsafe restart: each step may happen but the restart, and it leads to a line that isn't safe
pub record IsUnsafe (durable lost : List Line) (killed restart : Line) (after : List Line) : Type 0 where
  pub steps : AreSteps (new_line config) durable
  pub more : AreSteps (last_line (new_line config) durable) lost
  pub till : last_line (last_line (new_line config) durable) lost ≡ killed
  pub start : restart
      ≡ restarted (last_line (new_line config) durable) killed restart.released restart.left
  pub later : AreSteps restart after
  pub unsafe : LineHolds (last_line restart after) → ⊥

-- an order: the exchange accepts it, and the dispatcher that is started again takes the leg for one that it never sent
abbrev pub order_taken : Line
order_taken = exchanging (standing 1 4 (first ∷ []) (two ++ None ∷ [])) [] first_sent

abbrev pub order_lost : Line
order_lost = restarted up order_taken legs 2

abbrev pub IsOrderLost : Type 0
IsOrderLost = IsUnsafe (till_up legs) (first_sent ∷ order_taken ∷ []) order_taken order_lost []

-- a gap fill: the connection breaks before the first order comes to the exchange, which asks for its number in the next
-- one. So the session withdraws the leg, and fills the number over; the exchange takes the gap fill
abbrev pub parted : Line
parted = breaking first_sent

abbrev pub joining : Line
joining = connecting parted

abbrev pub asked_for : Line
asked_for = exchanging (standing 2 3 [] four) (logon 2 3 ∷ asks 2 4 3 ∷ []) joining

abbrev pub settling : Line
settling = receiving (logon 2 3) asked_for

abbrev pub withdrawn : Line
withdrawn = receiving (asks 2 4 3) settling

abbrev pub fill_taken : Line
fill_taken = exchanging (standing 2 6 [] four) [] withdrawn

-- the dispatcher that is started again has the leg in doubt; its fence is answered, and so it takes the leg for
-- accepted
abbrev pub fill_lost : Line
fill_lost = record {
  released = legs;
  left = 2;
  session = session_of Down (Admin ∷ Admin ∷ Sent (doubted 1 first) ∷ Admin ∷ Admin ∷ []) 2
      (connection_of 4 (5 ∷ []) None) 4;
  exchange = standing 2 6 [] four;
  to_exchange = logon 1 1 ∷ fence 1 2 ∷ order 1 3 first ∷ logon 2 4 ∷ fence 2 5 ∷ [];
  from_exchange = logon 1 1 ∷ answer 1 2 2 ∷ logon 2 3 ∷ asks 2 4 3 ∷ [];
  waiting = None;
  given = [];
}

abbrev pub joining_again : Line
joining_again = connecting fill_lost

abbrev pub logon_taken : Line
logon_taken = exchanging (standing 3 7 [] four) (logon 3 4 ∷ []) joining_again

abbrev pub settling_again : Line
settling_again = receiving (logon 3 4) logon_taken

abbrev pub fence_taken : Line
fence_taken = exchanging (standing 3 8 [] (four ++ None ∷ [])) (answer 3 5 7 ∷ []) settling_again

abbrev pub called_taken : Line
called_taken = receiving (answer 3 5 7) fence_taken

abbrev pub IsFillLost : Type 0
IsFillLost =
    IsUnsafe (till_up legs ++ first_sent ∷ parted ∷ joining ∷ asked_for ∷ settling ∷ []) (withdrawn ∷ fill_taken ∷ [])
    fill_taken fill_lost (joining_again ∷ logon_taken ∷ settling_again ∷ fence_taken ∷ called_taken ∷ [])

-- a close: the session's Logout is taken, and the dispatcher that is started again knows of no close
abbrev pub close_asked : Line
close_asked = closing up

abbrev pub close_answered : Line
close_answered = exchanging (standing 1 4 [] (two ++ None ∷ [])) (answer 1 3 3 ∷ []) close_asked

abbrev pub logged_out : Line
logged_out = receiving (answer 1 3 3) close_answered

-- the exchange once it took the Logout, when no order was accepted
abbrev pub closed : Option ℕ → ℕ → ℕ → List Leg → List (Option Content) → RuleState
closed live last expected accepted own = record {
  intake = record {
    expected = expected;
    live = live;
    last = last;
    accepted = accepted;
    closed_at = Some 0;
  };
  tests = [];
  refusable = [];
  others = [];
  own = own;
  unasked = [];
}

abbrev pub logout_taken : Line
logout_taken = exchanging (closed None 1 5 [] (two ++ None ∷ [])) [] logged_out

-- it logs on with the numbers that it had, until one isn't too low; then it sends a leg, which is accepted
abbrev pub close_lost : Line
close_lost = record {
  released = legs;
  left = 0;
  session = session_of Down (Admin ∷ Admin ∷ []) 1 (connection_of 1 [] None) 3;
  exchange = closed None 1 5 [] (two ++ None ∷ []);
  to_exchange = logon 1 1 ∷ fence 1 2 ∷ [];
  from_exchange = logon 1 1 ∷ answer 1 2 2 ∷ answer 1 3 3 ∷ [];
  waiting = None;
  given = [];
}

abbrev pub too_low : Line
too_low = connecting close_lost

abbrev pub refused : Line
refused = breaking too_low

abbrev pub too_low_again : Line
too_low_again = connecting refused

abbrev pub refused_again : Line
refused_again = record {
  released = legs;
  left = 0;
  session = session_of Down (Admin ∷ Admin ∷ Admin ∷ Admin ∷ []) 3 (connection_of 4 [] None) 3;
  exchange = closed None 1 5 [] (two ++ None ∷ []);
  to_exchange = logon 1 1 ∷ fence 1 2 ∷ logon 2 3 ∷ logon 3 4 ∷ [];
  from_exchange = logon 1 1 ∷ answer 1 2 2 ∷ answer 1 3 3 ∷ [];
  waiting = None;
  given = [];
}

abbrev pub high_enough : Line
high_enough = connecting refused_again

abbrev pub opened : Line
opened = exchanging (closed (Some 4) 4 6 [] (two ++ None ∷ [])) (logon 4 3 ∷ []) high_enough

abbrev pub settling_open : Line
settling_open = receiving (logon 4 3) opened

abbrev pub fence_open : Line
fence_open = exchanging (closed (Some 4) 4 7 [] four) (answer 4 4 6 ∷ []) settling_open

abbrev pub up_open : Line
up_open = receiving (answer 4 4 6) fence_open

abbrev pub sent_open : Line
sent_open = sending 1 first up_open

abbrev pub accepted_open : Line
accepted_open = exchanging (closed (Some 4) 4 8 (first ∷ []) four) [] sent_open

abbrev pub till_accepted : List Line
till_accepted =
    too_low
    ∷ refused
    ∷ too_low_again
    ∷ refused_again
    ∷ high_enough
    ∷ opened
    ∷ settling_open
    ∷ fence_open
    ∷ up_open
    ∷ sent_open
    ∷ accepted_open
    ∷ []

abbrev pub IsCloseLost : Type 0
IsCloseLost =
    IsUnsafe (till_up legs) (close_asked ∷ close_answered ∷ logged_out ∷ logout_taken ∷ []) logout_taken close_lost
    till_accepted

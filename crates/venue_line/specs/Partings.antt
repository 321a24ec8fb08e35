-- Worked lines on which the exchange logs out unasked while an order is under way: it logs out first, or it answers a
-- Logon by a Logout.
use Rattle.std.specs.Prelude.{◌≡◌, ℕ, false, List, [], ◌∷◌, ◌++◌, Option, Some, None}
use Rattle.fix_tags.specs.declared.session_body.SessionBody.TheVariants.{Logout}
use Rattle.leg.specs.declared.leg.Leg.{Leg}
use Rattle.leg.specs.declared.leg_state.LegState.TheVariants.{Doubt, Withdrawn}
use Rattle.dialect.specs.declared.content.Content.{Content}
use Rattle.dialect.specs.declared.content.Content.TheVariants.{Session}
use Rattle.resend.specs.Log.Entry.{Admin, Sent}
use Rattle.session_core.specs.declared.phase.Phase.TheVariants.{Down, Closed}
use Rattle.session_core.specs.Session.{new_connection, leg_state}
use Rattle.session_core.specs.Calling.{doubted}
use Rattle.session_core.specs.Example.{config}
use Rattle.exchange_core.specs.Acceptance.{Carried, RuleState}
use Rattle.venue_line.specs.Line.{Line, new_line, AreSteps}
use Rattle.venue_line.specs.Worked.{first, at, logon, fence, answer, order, asks, standing, connecting, sending, breaking, receiving, exchanging, two, four, till_up, up_with}

abbrev pub legs : List Leg
legs = first ∷ []

-- a Logout in its connection
abbrev pub logout : ℕ → ℕ → Carried
logout connection number = at connection number (Session Logout)

-- the exchange, after it wrote a Logout unasked into this connection
abbrev pub parted_in : ℕ → RuleState → RuleState
parted_in connection s = record s { unasked = connection ∷ [] }

abbrev pub three : List (Option Content)
three = two ++ None ∷ []

-- a leg is sent, under number 3
abbrev pub sent : Line
sent = sending 1 first (up_with legs)

-- Its order is taken, and the exchange logs out before it says so. The session answers, and is over; the leg stays in
-- doubt, though it was accepted. The exchange takes the session's Logout
abbrev pub order_taken : Line
order_taken = exchanging (standing 1 4 legs two) [] sent

abbrev pub parted : Line
parted = exchanging (parted_in 1 (standing 1 4 legs three)) (logout 1 3 ∷ []) order_taken

abbrev pub over : Line
over = receiving (logout 1 3) parted

abbrev pub closed : RuleState
closed = parted_in 1 (record (standing 1 4 legs three) {
  intake = record { expected = 5; live = None; last = 1; accepted = legs; closed_at = Some 1 };
})

abbrev pub answer_taken : Line
answer_taken = exchanging closed [] over

pub record PartsFirst : Type 0 where
  pub steps : AreSteps (new_line config) (till_up legs)
  pub more : AreSteps (up_with legs) (sent ∷ order_taken ∷ parted ∷ over ∷ answer_taken ∷ [])
  pub ended : over.session.phase ≡ Closed
  pub doubt : leg_state answer_taken.session 1 ≡ Some Doubt
  pub accepted : answer_taken.exchange.intake.accepted ≡ legs
  pub mark : answer_taken.exchange.intake.closed_at ≡ Some 1

-- The order is lost with its connection. The exchange answers the next Logon by a Logout, and the session may connect
-- again: the leg stays in doubt. The Logon after it is taken, and the exchange asks for the order: so the leg is
-- withdrawn
abbrev pub rejoining : Line
rejoining = connecting (breaking sent)

abbrev pub refused : Line
refused = exchanging (parted_in 2 (standing 1 3 [] three)) (logout 2 3 ∷ []) rejoining

abbrev pub down : Line
down = record {
  released = legs;
  left = 1;
  session = record {
    config = config;
    phase = Down;
    log = Admin ∷ Admin ∷ Sent (doubted 1 first) ∷ Admin ∷ [];
    settled = 2;
    connection = 2;
    current = new_connection 4;
    expected = 3;
    close_asked = false;
  };
  exchange = parted_in 2 (standing 1 3 [] three);
  to_exchange = logon 1 1 ∷ fence 1 2 ∷ order 1 3 first ∷ logon 2 4 ∷ [];
  from_exchange = logon 1 1 ∷ answer 1 2 2 ∷ logout 2 3 ∷ [];
  waiting = None;
  given = [];
}

abbrev pub joining : Line
joining = connecting down

abbrev pub asked_for : Line
asked_for = exchanging (parted_in 2 (standing 3 3 [] four)) (logon 3 3 ∷ asks 3 4 3 ∷ []) joining

abbrev pub settling : Line
settling = receiving (logon 3 3) asked_for

abbrev pub settled : Line
settled = receiving (asks 3 4 3) settling

pub record RefusesLogon : Type 0 where
  pub steps : AreSteps (new_line config) (till_up legs)
  pub more : AreSteps (up_with legs)
      (sent ∷ breaking sent ∷ rejoining ∷ refused ∷ receiving (logout 2 3) refused ∷ [])
  pub till : receiving (logout 2 3) refused ≡ down
  pub doubt : leg_state down.session 1 ≡ Some Doubt
  pub later : AreSteps down (joining ∷ asked_for ∷ settling ∷ settled ∷ [])
  pub withdrawn : leg_state settled.session 1 ≡ Some Withdrawn

-- A worked history: the connection breaks when two legs are on their way, and only the first one has come. In the next
-- connection that is found out: the first leg is taken, the second one withdrawn, and its number filled over.
use Rattle.std.specs.Prelude.{◌≡◌, ℕ, false, List, [], ◌∷◌, ◌++◌, codes, Some, None}
use Rattle.fix_tags.specs.Body.{Body}
use Rattle.fix_tags.specs.declared.body.Body.TheVariants as body
use Rattle.fix_tags.specs.declared.session_body.SessionBody.TheVariants as body_said
use Rattle.leg.specs.declared.leg_state.LegState.TheVariants.{Taken, Withdrawn}
use Rattle.dialect.specs.Wording.{Decoding}
use Rattle.session_core.specs.declared.phase.Phase.TheVariants.{Up}
use Rattle.session_core.specs.declared.session_call.SessionCall.{SessionCall}
use Rattle.session_core.specs.declared.session_call.SessionCall.TheVariants as call
use Rattle.session_core.specs.Session.{new_session, leg_state}
use Rattle.session_core.specs.Turn.{fence_id}
use Rattle.session_core.specs.Example.{config}
use Rattle.exchange_core.specs.Acceptance.{Carried, RuleState}
use Rattle.venue_line.specs.Line.{Line, new_line}
use Rattle.venue_line.specs.Worked.{first, second, logon, fence, answer, order, asks, fill, standing, two, four}
use Rattle.session_worker.specs.Events.{AreAllowed, withdrawn_by}
use Rattle.session_worker.specs.Events.WorkerEvent.{Calls}
use Rattle.worker_line.specs.Happening.{VenueEvent, works_of, after_events, MayAllHappen, AllTakeNext}
use Rattle.worker_line.specs.Happening.VenueEvent.{Works, Exchanges, Releases}

-- the worker makes a call of its session; and it receives what B says
abbrev pub calls : SessionCall → VenueEvent
calls made = Works (Calls made)

abbrev pub hears : ℕ → Body → VenueEvent
hears number says = calls
    (call.Receive
    (record {
      sender = codes "B";
      target = codes "A";
      number = number;
      poss_dup = false;
      poss_resend = false;
      body = says;
    }))

-- a message comes to the exchange: so it stands then, and this it writes
abbrev pub takes : Carried → RuleState → List Carried → VenueEvent
takes m after written = Exchanges (Some m) after written

-- the session logs on, and its fence is answered: it is up
abbrev pub logging_on : List VenueEvent
logging_on =
    calls call.Connect
    ∷ takes (logon 1 1) (standing 1 2 [] (None ∷ [])) (logon 1 1 ∷ [])
    ∷ hears 1 (body.Session (body_said.Logon 30 false None))
    ∷ takes (fence 1 2) (standing 1 3 [] two) (answer 1 2 2 ∷ [])
    ∷ hears 2 (body.Session (body_said.Heartbeat (Some (fence_id 2))))
    ∷ []

-- two legs are released, and sent under the numbers 3 and 4; the first comes to the exchange, and the connection breaks
abbrev pub losing : List VenueEvent
losing =
    Releases (first ∷ second ∷ [])
    ∷ calls (call.SendLeg 1 first)
    ∷ calls (call.SendLeg 2 second)
    ∷ takes (order 1 3 first) (standing 1 4 (first ∷ []) two) []
    ∷ calls call.Broken
    ∷ []

-- the next connection: the exchange takes its Logon, and asks for number 4, which it expects; the order of the second
-- leg, which comes only now, it drops. So the session settles: that number is filled over, and the fence behind it is
-- answered
abbrev pub settling : List VenueEvent
settling =
    calls call.Connect
    ∷ takes (logon 2 5) (standing 2 4 (first ∷ []) four) (logon 2 3 ∷ asks 2 4 4 ∷ [])
    ∷ takes (order 1 4 second) (standing 2 4 (first ∷ []) four) []
    ∷ hears 3 (body.Session (body_said.Logon 30 false None))
    ∷ hears 4 (body.Session (body_said.ResendRequest 4 0))
    ∷ takes (fill 2 4 7) (standing 2 7 (first ∷ []) four) []
    ∷ takes (fence 2 7) (standing 2 8 (first ∷ []) (four ++ None ∷ [])) (answer 2 5 7 ∷ [])
    ∷ hears 5 (body.Session (body_said.Heartbeat (Some (fence_id 7))))
    ∷ []

abbrev pub history : List VenueEvent
history = logging_on ++ losing ++ settling

abbrev pub reached : Decoding → Line
reached read = after_events read (new_line config) history

-- all of it may happen, by the rules of the exchange and by those of the worker; and this it comes to
pub record IsFilledOver (read : Decoding) : Type 0 where
  pub happens : MayAllHappen read (new_line config) history
  pub takes_next : AllTakeNext read (new_line config) history
  pub allowed : AreAllowed read (new_session config) (works_of history)
  pub accepted : (reached read).exchange.intake.accepted ≡ first ∷ []
  pub taken : leg_state (reached read).session 1 ≡ Some Taken
  pub withdrawn : leg_state (reached read).session 2 ≡ Some Withdrawn
  pub asked : withdrawn_by read (new_session config) (works_of history) ≡ second.id ∷ []
  pub up : (reached read).session.phase ≡ Up

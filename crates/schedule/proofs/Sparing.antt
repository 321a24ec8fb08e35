-- Gates, the session's other calls, the exchange and breaks withdraw no leg.
use Rattle.std.proofs.Common.{◌≡◌, ℕ, List, [], ◌∷◌, Option, Some, None, Ok, Err, refl, sym}
use Rattle.leg.specs.Growing.{Grew}
use Rattle.dialect.specs.declared.message.Message.{Message}
use Rattle.dialect.specs.declared.outgoing.Outgoing.{Outgoing}
use Rattle.session_core.specs.Turn.{StepParts}
use Rattle.session_core.specs.Onward.{OrUnchanged, IsCall, IsConnection}
use Rattle.session_core.specs.Calling.{SessionAnswer, connect, broken, abandon}
use Rattle.session_core.proofs.Called.{connect_keeps, broken_keeps, abandon_keeps}
use Rattle.exchange_core.specs.Exchange.{ExchangeParts, live_connection, take, drop_connection}
use Rattle.exchange_core.specs.Acts.{ActAnswer}
use Rattle.exchange_core.proofs.Entries.{chosen}
use Rattle.sweep_release.specs.Desk.{gate_of, gate_up, gate_down, shut}
use Rattle.schedule.specs.World.{World, VenueParts, Frame, venue_in}
use Rattle.schedule.specs.Happening.{with_venue, session_wrote, exchange_wrote, exchange_did, is_session_up, may_connect, connected_world, to_exchange, acted_world, called_world, closed_world, connects, goes_up}
use Rattle.schedule.proofs.Grown.{grew-refl}
use Rattle.schedule.proofs.DeskKeeps.{gate_up_keeps, gate_down_keeps, shut_keeps}
use Rattle.schedule.proofs.Lines.{set_same, left-gate_up_from, left-gate_down, left-shut}
use Rattle.schedule.proofs.RunsSafely.{IsSafe}
use Rattle.schedule.proofs.Asking.{Asked, asked-refl, asked_nothing, asked_at_venue}

module _ (w : World) (safe : IsSafe w) (v : ℕ) (venue : VenueParts) (there : venue_in w v ≡ Some venue) where
  -- gates
  pub up_asked : Asked w (goes_up w v venue)
  up_asked =
      chosen (Asked w) (is_session_up venue.session.phase) (record w { desk = (gate_up w.desk v).1 }) w
      (λ up. asked_nothing w safe v venue there (record w { desk = (gate_up w.desk v).1 }) venue
      (gate_up_keeps v w.desk) (sym (set_same w.venues v venue there)) refl
      (left-gate_up_from v (gate_of w.desk v) w.desk) (grew-refl venue.session.log))
      (λ not_up. asked-refl w)

  pub down_asked : Asked w (record w { desk = gate_down w.desk v })
  down_asked =
      asked_nothing w safe v venue there (record w { desk = gate_down w.desk v }) venue (gate_down_keeps v w.desk)
      (sym (set_same w.venues v venue there)) refl (left-gate_down v w.desk)
      (grew-refl venue.session.log)

  -- the session's calls
  connected_asked : (answer : SessionAnswer Message) → OrUnchanged venue.session (IsConnection venue.session) answer
      → Asked w (connected_world w v venue answer)
  connected_asked (Err fault, session) is = asked-refl w
  connected_asked (Ok message, session) is =
      asked_at_venue w safe v venue there _ (session_wrote session (message ∷ []) venue) refl refl refl is.keeps.added

  pub connect_asked : Asked w (connects w v venue)
  connect_asked =
      chosen (Asked w) (may_connect w.desk v) (connected_world w v venue (connect venue.session)) w
      (λ may. connected_asked (connect venue.session) (connect_keeps venue.session)) (λ may_not. asked-refl w)

  pub called_asked : (answer : SessionAnswer StepParts) → OrUnchanged venue.session (IsCall venue.session) answer
      → Asked w (called_world w v venue answer)
  called_asked (Err fault, session) is = asked-refl w
  called_asked (Ok step, session) is =
      asked_at_venue w safe v venue there _ (session_wrote session step.written venue) refl refl refl is.keeps.added

  pub closed_asked : (answer : SessionAnswer StepParts) → OrUnchanged venue.session (IsCall venue.session) answer
      → Asked w (closed_world w v venue answer)
  closed_asked (Err fault, session) is = asked-refl w
  closed_asked (Ok step, session) is =
      asked_nothing w safe v venue there _ (session_wrote session step.written venue) (shut_keeps v w.desk) refl refl
      (left-shut v w.desk) is.keeps.added

  pub break_asked : Asked w (with_venue w v (record venue { session = broken venue.session }))
  break_asked = asked_at_venue w safe v venue there _ (record venue { session = broken venue.session }) refl refl refl
      (broken_keeps venue.session).added

  pub abandon_asked : Asked w (with_venue (record w { desk = shut w.desk v }) v
      (record venue { session = abandon venue.session }))
  abandon_asked =
      asked_nothing w safe v venue there _ (record venue { session = abandon venue.session })
      (shut_keeps v w.desk) refl refl (left-shut v w.desk) (abandon_keeps venue.session).added

  -- the exchange
  pub to_exchange_asked : (found : Option Frame) → Asked w (to_exchange w v venue found)
  to_exchange_asked None = asked-refl w
  to_exchange_asked (Some frame) =
      let a = take venue.exchange frame.connection frame.message in
      asked_at_venue w safe v venue there _ (exchange_wrote frame.connection a.0 a.1 venue) refl refl refl
      (grew-refl venue.session.log)

  pub exchange_break_asked : Asked w (with_venue w v (record venue { exchange = drop_connection venue.exchange }))
  exchange_break_asked = asked_at_venue w safe v venue there _
      (record venue { exchange = drop_connection venue.exchange }) refl refl refl (grew-refl venue.session.log)

  did_grew : (live : Option ℕ) (written : List Outgoing) (x : ExchangeParts)
      → Grew venue.session.log (exchange_did live written x venue).session.log
  did_grew None written x = grew-refl venue.session.log
  did_grew (Some connection) written x = grew-refl venue.session.log

  pub acted_asked : (answer : ActAnswer) → Asked w (acted_world w v venue answer)
  acted_asked (Err fault, x) = asked-refl w
  acted_asked (Ok written, x) =
      asked_at_venue w safe v venue there _
      (exchange_did (live_connection venue.exchange) written x venue) refl refl refl
      (did_grew (live_connection venue.exchange) written x)

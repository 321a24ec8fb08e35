-- What each event of a worker asks the book to withdraw are the legs that its line withdraws by it.
use Rattle.std.proofs.Common.{◌≡◌, suc, false, [], ◌∷◌, Some, Ok, Err, refl, sym, ap, subst, ◌∙◌, arith}
use Rattle.leg.specs.Growing.{Grew}
use Rattle.leg.specs.Numbered.{numbered}
use Rattle.leg.specs.declared.placed_leg.PlacedLeg.{PlacedLeg}
use Rattle.dialect.specs.declared.message.Message.{Message}
use Rattle.dialect.specs.Message.{decoded}
use Rattle.dialect.specs.Wording.{Decoding}
use Rattle.session_core.specs.declared.session_call.SessionCall.{SessionCall}
use Rattle.session_core.specs.declared.session_call.SessionCall.TheVariants as call
use Rattle.session_core.specs.Session.{SessionParts, is_connected, next_out}
use Rattle.session_core.specs.Turn.{StepParts, disconnected}
use Rattle.session_core.specs.Calling.{SessionAnswer, connect, send_leg, quiet, silent, close, broken, doubted}
use Rattle.session_core.specs.Onward.{OrUnchanged, IsCall, IsConnection, SendsLeg}
use Rattle.session_core.specs.Trial.{Addition, added, added_message, called}
use Rattle.session_core.proofs.Adding.{chosen}
use Rattle.session_core.proofs.Called.{connect_keeps, send_leg_keeps, confirm_keeps, quiet_keeps, silent_keeps, close_keeps, malformed_keeps, broken_keeps, abandon_keeps}
use Rattle.session_core.proofs.Received.{receive_is_received}
use Rattle.venue_line.specs.Line.{Line}
use Rattle.venue_line.proofs.GivenSteps.{Whole}
use Rattle.venue_line.specs.Leading.{Leads}
use Rattle.venue_line.proofs.Leading.{leads_safely, leads_past}
use Rattle.schedule.proofs.Asking.{grew_none, grew_by}
use Rattle.session_worker.specs.Booking.{named_in, unless_sent}
use Rattle.session_worker.specs.Events.{WorkerEvent, withdrawn_in}
use Rattle.session_worker.specs.Events.WorkerEvent.{Calls, Drops, Fails}
use Rattle.worker_line.specs.Happening.{after_event, MayHear, TakesNext}
use Rattle.worker_line.specs.Happening.VenueEvent.{Works}
use Rattle.worker_line.proofs.OneEvent.{IsAt, first_behind, event_leads}
use Rattle.worker_line.proofs.AskedLegs.{Asks, asks_none, asks_since, asks_sent, asks_unsent}

-- a call whose log only grew, and which names none
record NamesNone (s : SessionParts) (a : Addition) : Type 0 where
  grew : Grew s.log a.1.log
  named : named_in a.0 ≡ []

connection_names : (s : SessionParts) (answer : SessionAnswer Message) → OrUnchanged s (IsConnection s) answer
    → NamesNone s (added_message answer)
connection_names s (Ok message, t) does = record { grew = does.keeps.added; named = refl }
connection_names s (Err fault, t) same =
    record { grew = grew_by s.log t.log (ap (λ (x : SessionParts). x.log) same); named = refl }

call_names : (s : SessionParts) (answer : SessionAnswer StepParts) → OrUnchanged s (IsCall s) answer
    → NamesNone s (added answer)
call_names s (Ok step, t) does = record { grew = does.keeps.added; named = does.withdrawn }
call_names s (Err fault, t) same =
    record { grew = grew_by s.log t.log (ap (λ (x : SessionParts). x.log) same); named = refl }

-- a broken connection leaves the log as it is
broken_log : (s : SessionParts) → (broken s).log ≡ s.log
broken_log s =
    chosen (λ (t : SessionParts). t.log ≡ s.log) (is_connected s.phase) (disconnected false s) s (λ on. refl) (λ off. refl)

module _ (a b : Line) (h : Whole a) (leads : Leads a b) where
  -- no leg leaves
  none_asked : b.left ≡ a.left → Grew a.session.log b.session.log → Asks a b []
  none_asked left grew =
      let safe = leads_safely a b leads h in
      asks_none a b h.0 safe.0.0 safe.1 (leads_past a b leads) left
      (λ id. grew_none a.session.log b.session.log id grew)

  -- one leaves, and isn't sent
  unsent_asked : b.left ≡ suc a.left → b.released ≡ a.released → b.session.log ≡ a.session.log → (leg : PlacedLeg)
      → IsAt a.left 1 a.released leg → Asks a b (leg.leg.id ∷ [])
  unsent_asked left released log leg at =
      let safe = leads_safely a b leads h in
      asks_unsent a b h.0 safe.0.0 safe.1 (leads_past a b leads) left log
      (λ id. grew_none a.session.log b.session.log id (grew_by a.session.log b.session.log log)) leg.leg
      (subst (λ l. numbered (suc a.left) l ≡ Some leg.leg) (sym released) at.there)

  -- one leaves, and is handed to the session
  sent_asked : b.left ≡ suc a.left → b.released ≡ a.released → (leg : PlacedLeg) → IsAt a.left 1 a.released leg
      → (answer : SessionAnswer Message) → OrUnchanged a.session (SendsLeg a.session leg.ordinal leg.leg) answer
      → b.session ≡ (added_message answer).1 → Asks a b (unless_sent leg.leg.id (added_message answer).0)
  sent_asked left released leg at (Ok message, t) does is =
      let safe = leads_safely a b leads h in
      let log : b.session.log ≡ t.log = ap (λ (x : SessionParts). x.log) is in
      asks_sent a b h.0 safe.0.0 safe.1 (leads_past a b leads) left
      (λ id. grew_none a.session.log b.session.log id (subst (Grew a.session.log) (sym log) does.keeps.added))
      (next_out a.session) (doubted leg.ordinal leg.leg)
      (ap (numbered (next_out a.session)) log ∙ does.in_doubt) (let e = at.ordinal in omega arith) refl
  sent_asked left released leg at (Err fault, t) same is =
      unsent_asked left released (ap (λ (x : SessionParts). x.log) (is ∙ same)) leg at

-- a call that takes no leg and names none
module _ (read : Decoding) (a : Line) (h : Whole a) where
  called_asks : (made : SessionCall) → Leads a (after_event read a (Works (Calls made)))
      → (after_event read a (Works (Calls made))).left ≡ a.left → NamesNone a.session (called read a.session made)
      → (after_event read a (Works (Calls made))).session ≡ (called read a.session made).1
      → Asks a (after_event read a (Works (Calls made))) (named_in (called read a.session made).0)
  called_asks made leads left none is =
      let b = after_event read a (Works (Calls made)) in
      subst (Asks a b) (sym none.named)
      (none_asked a b h leads left
      (subst (λ (t : SessionParts). Grew a.session.log t.log) (sym is) none.grew))

  leg_asks : (event : WorkerEvent) → MayHear read a event → TakesNext a (Works event)
      → Leads a (after_event read a (Works event))
      → Asks a (after_event read a (Works event)) (withdrawn_in read a.session event)
  leg_asks (Calls call.Connect) may next leads =
      called_asks call.Connect leads (omega arith) (connection_names a.session (connect a.session) (connect_keeps a.session)) refl
  leg_asks (Calls (call.SendLeg ordinal leg)) may next leads =
      let placed : PlacedLeg = record { ordinal = ordinal; leg = leg } in
      sent_asked a (after_event read a (Works (Calls (call.SendLeg ordinal leg)))) h leads (omega arith) refl placed
      (first_behind a.left 1 a.released placed next.0 next.1) (send_leg a.session ordinal leg)
      (send_leg_keeps a.session ordinal leg) refl
  leg_asks (Calls (call.Receive envelope)) may next leads =
      let b = after_event read a (Works (Calls (call.Receive envelope))) in
      let safe = leads_safely a b leads h in
      let is = receive_is_received a.session (decoded read envelope) in
      subst (Asks a b) (sym is.named)
      (asks_since a b h.0 safe.0.0 safe.1 (leads_past a b leads) (omega arith) is.onward.log)
  leg_asks (Calls call.Confirm) may next leads =
      called_asks call.Confirm leads (omega arith) (record { grew = (confirm_keeps a.session).added; named = refl }) refl
  leg_asks (Calls call.Quiet) may next leads =
      called_asks call.Quiet leads (omega arith) (call_names a.session (quiet a.session) (quiet_keeps a.session)) refl
  leg_asks (Calls call.Silent) may next leads =
      called_asks call.Silent leads (omega arith) (call_names a.session (silent a.session) (silent_keeps a.session)) refl
  leg_asks (Calls call.Close) may next leads =
      called_asks call.Close leads (omega arith) (call_names a.session (close a.session) (close_keeps a.session)) refl
  leg_asks (Calls call.Malformed) may next leads =
      called_asks call.Malformed leads (omega arith) (record { grew = (malformed_keeps a.session).added; named = refl }) refl
  leg_asks (Calls call.Broken) may next leads =
      called_asks call.Broken leads (omega arith) (record { grew = (broken_keeps a.session).added; named = refl }) refl
  leg_asks (Calls call.Abandon) may next leads =
      called_asks call.Abandon leads (omega arith) (record { grew = (abandon_keeps a.session).added; named = refl }) refl
  leg_asks (Drops leg) may next leads =
      unsent_asked a (after_event read a (Works (Drops leg))) h leads (omega arith) refl refl leg
      (first_behind a.left 1 a.released leg next.0 next.1)
  leg_asks (Fails leg) may next leads =
      unsent_asked a (after_event read a (Works (Fails leg))) h leads (omega arith) refl (broken_log a.session) leg
      (first_behind a.left 1 a.released leg next.0 next.1)

pub event_asks : (read : Decoding) (a : Line) (event : WorkerEvent) → MayHear read a event → TakesNext a (Works event)
    → Whole a → Asks a (after_event read a (Works event)) (withdrawn_in read a.session event)
event_asks read a event may next h = leg_asks read a h event may next (event_leads read a (Works event) may next)

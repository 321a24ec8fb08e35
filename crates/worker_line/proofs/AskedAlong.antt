-- Along the events at a venue, the legs that the book was asked to withdraw are those that are withdrawn on the line.
use Rattle.std.proofs.Common.{◌≡◌, List, [], ◌∷◌, refl, subst, inl, inr, arith}
use Rattle.std.specs.List.{Contains}
use Rattle.leg.specs.LegId.{LegIdParts}
use Rattle.dialect.specs.Wording.{Decoding}
use Rattle.session_core.specs.Trial.{after_calls}
use Rattle.venue_line.specs.Line.{Line}
use Rattle.venue_line.proofs.ForGood.{settled-refl, settled-trans}
use Rattle.venue_line.proofs.GivenSteps.{Whole}
use Rattle.venue_line.proofs.PastLines.{past-refl}
use Rattle.venue_line.specs.Leading.{Leads}
use Rattle.venue_line.proofs.Leading.{leads-refl, leads-trans, leads_safely, leads_past}
use Rattle.schedule.proofs.Asking.{grew_none, grew_by}
use Rattle.session_worker.specs.Events.{WorkerEvent, calls_in, withdrawn_in, withdrawn_by}
use Rattle.session_worker.specs.Events.WorkerEvent.{Calls, Drops, Fails}
use Rattle.worker_line.specs.Gone.{AreGone}
use Rattle.worker_line.specs.Happening.{VenueEvent, works_of, after_event, after_events, MayAllHappen, AllTakeNext}
use Rattle.worker_line.specs.Happening.VenueEvent.{Works, Exchanges, Releases}
use Rattle.worker_line.proofs.OneEvent.{event_leads}
use Rattle.worker_line.proofs.TakenAlong.{called_session}
use Rattle.worker_line.proofs.AskedLegs.{Asks, asks_none, asks_both}
use Rattle.worker_line.proofs.AskedEvents.{event_asks}

module _ (read : Decoding) where
  -- all events lead on
  pub events_lead : (a : Line) (events : List VenueEvent) → MayAllHappen read a events → AllTakeNext read a events
      → Leads a (after_events read a events)
  events_lead a [] may next = leads-refl a
  events_lead a (event ∷ events) may next =
      let b = after_event read a event in
      leads-trans a b (after_events read b events) (event_leads read a event may.0 next.0)
      (events_lead b events may.1 next.1)

  session_after : (a : Line) (event : WorkerEvent)
      → (after_event read a (Works event)).session ≡ after_calls read a.session (calls_in event)
  session_after a (Calls made) = called_session read a made
  session_after a (Drops leg) = refl
  session_after a (Fails leg) = refl

  -- an event of the exchange or the desk asks for none
  still_asks : (a b w : Line) (asked : List LegIdParts) → Whole a → Leads a b → b.left ≡ a.left
      → b.session.log ≡ a.session.log → Asks b w asked → Asks a w asked
  still_asks a b w asked h leads left log more =
      let safe = leads_safely a b leads h in
      asks_both a b w [] asked safe.0.0
      (asks_none a b h.0 safe.0.0 safe.1 (leads_past a b leads) left
      (λ id. grew_none a.session.log b.session.log id (grew_by a.session.log b.session.log log)))
      more (settled-trans a b w safe.1 more.stays)

  pub asks_along : (a : Line) (events : List VenueEvent) → MayAllHappen read a events → AllTakeNext read a events
      → Whole a → Asks a (after_events read a events) (withdrawn_by read a.session (works_of events))
  asks_along a [] may next h =
      asks_none a a h.0 h.0 (settled-refl a) (past-refl a) refl
      (λ id. grew_none a.session.log a.session.log id (grew_by a.session.log a.session.log refl))
  asks_along a (Works event ∷ events) may next h =
      let b = after_event read a (Works event) in
      let w = after_events read b events in
      let leads = event_leads read a (Works event) may.0 next.0 in
      let safe = leads_safely a b leads h in
      let more = asks_along b events may.1 next.1 safe.0 in
      asks_both a b w (withdrawn_in read a.session event)
      (withdrawn_by read (after_calls read a.session (calls_in event)) (works_of events)) safe.0.0
      (event_asks read a event may.0 next.0 h)
      (subst (λ s. Asks b w (withdrawn_by read s (works_of events))) (session_after a event) more)
      (settled-trans a b w safe.1 more.stays)
  asks_along a (Exchanges coming t written ∷ events) may next h =
      let b = after_event read a (Exchanges coming t written) in
      let leads = event_leads read a (Exchanges coming t written) may.0 next.0 in
      still_asks a b (after_events read b events) (withdrawn_by read a.session (works_of events)) h leads refl refl
      (asks_along b events may.1 next.1 (leads_safely a b leads h).0)
  asks_along a (Releases legs ∷ events) may next h =
      let b = after_event read a (Releases legs) in
      let leads = event_leads read a (Releases legs) may.0 next.0 in
      still_asks a b (after_events read b events) (withdrawn_by read a.session (works_of events)) h leads refl refl
      (asks_along b events may.1 next.1 (leads_safely a b leads h).0)

-- from a line that no leg had left
pub are_gone : (a w : Line) (asked : List LegIdParts) → a.left ≡ 0 → Asks a w asked → AreGone w asked
are_gone a w asked none asks = record {
  each = λ id there. (asks.each id there).gone;
  all = λ id is. elim (asks.all is.ordinal is.leg is.whole is.withdrawn) [
    | inl before ↦ absurd (let from = before.from in let left = before.left in omega arith)
    | inr there ↦ subst (Contains asked) is.same there
  ];
}

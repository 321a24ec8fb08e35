-- At each moment of a running worker its line is safe; and on an audited day the shares are as its notes say.
use Rattle.std.proofs.Common.{◌≡◌, ◌≤◌, List, [], ◌∷◌, ◌++◌, length, map, refl, sym, ap, subst, ◌∙◌, arith}
use Rattle.std.specs.List.{All, AllPairs}
use Rattle.std.proofs.lemmas.List.Elements.{All-cons, All-nil}
use Rattle.std.proofs.lemmas.List.Kept.{AllPairs-cons}
use Rattle.std.proofs.lemmas.Option.{slice_get_within}
use mathlib.Core.List.{IsPrefix}
use Rattle.fix_tags.specs.Config.{ConfigParts}
use Rattle.leg.specs.declared.leg.Leg.{Leg}
use Rattle.dialect.specs.Wording.{Decoding, Wording}
use Rattle.session_core.specs.Trial.{after_calls}
use Rattle.sweep_release.specs.Released.{released}
use Rattle.release_lock.specs.Queues.{placed_from}
use Rattle.venue_line.specs.Line.{Line, new_line}
use Rattle.venue_line.specs.Line as line
use Rattle.venue_line.specs.LineTheorem.{LineHolds}
use Rattle.venue_line.specs.ForGood.{StaysSettled}
use Rattle.venue_line.proofs.GivenSteps.{Whole, whole_new, whole_step}
use Rattle.venue_line.proofs.LineGives.{line_holds}
use Rattle.venue_line.proofs.ForGood.{settled-trans}
use Rattle.venue_line.proofs.Leading.{leads_safely, holds_at_last}
use Rattle.line_notes.specs.NotesTheorem.{NotesAreOnAccepted}
use Rattle.line_notes.proofs.NotesGiven.{the_notes_theorem}
use Rattle.exec_collector.specs.Seats.{Seat}
use Rattle.session_worker.specs.Events.{WorkerParts, Lasting, calls_of, taken_of, withdrawn_by, Goes}
use Rattle.session_worker.specs.Booking.{booked_by}
use Rattle.session_worker.specs.Events.WorkerEvent.{Drops}
use Rattle.session_worker.specs.Ends.{WorkerLeft, last_calls, Runs}
use Rattle.session_worker.proofs.Doing.{goes_on}
use Rattle.worker_line.specs.Happening.{VenueEvent, works_of, after_event, after_events, moments_of, MayAllHappen, AllTakeNext}
use Rattle.worker_line.specs.WorkerTheorem.{released_line, IsSafeLine, Worked, TheWorkerTheorem, works_in, Ran, TheRunTheorem, TheDayTheorem}
use Rattle.worker_line.proofs.OneEvent.{event_leads}
use Rattle.worker_line.proofs.TakenAlong.{session_along, given_along, HasTaken, taken_along, each_is_next}
use Rattle.worker_line.proofs.AskedAlong.{events_lead, asks_along, are_gone}
use Rattle.session_worker.specs.Audit.{counted_of}
use Rattle.worker_line.proofs.SeatShares.{shares_at, told_at}
use Rattle.worker_line.proofs.Spared.{taken_within, own_ids, spared_by}

module _ (read : Decoding) where
  all_hold : (a : Line) (events : List VenueEvent) → MayAllHappen read a events → AllTakeNext read a events → Whole a
      → All LineHolds (moments_of read a events)
  all_hold a [] may next h = All-cons LineHolds a [] (line_holds a h.0 h.1) (All-nil LineHolds)
  all_hold a (event ∷ events) may next h =
      let b = after_event read a event in
      let goes = leads_safely a b (event_leads read a event may.0 next.0) h in
      All-cons LineHolds a (moments_of read b events) (line_holds a h.0 h.1)
      (all_hold b events may.1 next.1 goes.0)

  -- what is settled at an earlier moment
  all_settled : (z a : Line) (events : List VenueEvent) → MayAllHappen read a events → AllTakeNext read a events
      → Whole a → StaysSettled z a
      → All (StaysSettled z) (moments_of read a events)
  all_settled z a [] may next h stays = All-cons (StaysSettled z) a [] stays (All-nil (StaysSettled z))
  all_settled z a (event ∷ events) may next h stays =
      let b = after_event read a event in
      let goes = leads_safely a b (event_leads read a event may.0 next.0) h in
      All-cons (StaysSettled z) a (moments_of read b events) stays
      (all_settled z b events may.1 next.1 goes.0 (settled-trans z a b stays goes.1))

  pairs_settled : (a : Line) (events : List VenueEvent) → MayAllHappen read a events → AllTakeNext read a events
      → Whole a → AllPairs StaysSettled (moments_of read a events)
  pairs_settled a [] may next h =
      AllPairs-cons StaysSettled a [] (All-nil (StaysSettled a)) (λ i j d low high. absurd (omega arith))
  pairs_settled a (event ∷ events) may next h =
      let b = after_event read a event in
      let goes = leads_safely a b (event_leads read a event may.0 next.0) h in
      AllPairs-cons StaysSettled a (moments_of read b events)
      (all_settled a b events may.1 next.1 goes.0 goes.1) (pairs_settled b events may.1 next.1 goes.0)

released_whole : (config : ConfigParts) (released : List Leg) → config.max_number ≤ 999999999
    → Whole (released_line config released)
released_whole config released small =
    whole_step (new_line config) (released_line config released) (line.releases released refl) (whole_new config small)

new_taken : (config : ConfigParts) (released : List Leg) → HasTaken (released_line config released) []
new_taken config released = record { left = refl; first = (placed_from 1 released, refl) }

took_is : (read : Decoding) (config : ConfigParts) (events : List VenueEvent) (after : WorkerParts)
    (worked : Worked read config events after) → after.took.taken ≡ taken_of (works_of events)
took_is read config events after worked =
    worked.goes.taken ∙ ap (λ l. l ++ taken_of (works_of events)) worked.empty

pub the_worker_theorem : TheWorkerTheorem
the_worker_theorem read config released events after small worked may next =
    let a = released_line config released in
    let whole = released_whole config released small in
    let has : HasTaken (after_events read a events) (taken_of (works_of events)) =
    taken_along read a [] events (new_taken config released) next in
    let took = took_is read config events after worked in
    record {
      holds = all_hold read a events may next whole;
      settled = pairs_settled read a events may next whole;
      session = session_along read a events
          ∙ (ap (λ s. after_calls read s (calls_of (works_of events))) (sym worked.new) ∙ sym worked.goes.session);
      given = given_along read a events;
      booked = worked.goes.booked a.waiting ∙ ap (λ l. worked.before.seat.booked ++ l)
          (ap (λ s. booked_by read s a.waiting (calls_of (works_of events))) worked.new ∙ sym (given_along read a events));
      asked = worked.goes.asked ∙ ap (λ l. worked.before.seat.asked ++ l)
          (ap (λ s. withdrawn_by read s (works_of events)) worked.new);
      gone = are_gone a (after_events read a events) (withdrawn_by read a.session (works_of events)) refl
          (asks_along read a events may next whole);
      left = has.left ∙ ap length (sym took);
      first = subst (λ l. IsPrefix l (placed_from 1 (after_events read a events).released)) (sym took) has.first;
    }

-- where the legs taken are the first of those released
the_taken_theorem : (read : Decoding) (config : ConfigParts) (legs : List Leg) (events : List VenueEvent)
    (after : WorkerParts) → config.max_number ≤ 999999999 → (worked : Worked read config events after)
    → MayAllHappen read (released_line config legs) events → IsPrefix after.took.taken (placed_from 1 legs)
    → IsSafeLine read (released_line config legs) events worked.before after
the_taken_theorem read config legs events after small worked may first =
    the_worker_theorem read config legs events after small worked may
    (each_is_next read (released_line config legs) [] events refl
    (subst (λ l. IsPrefix l (placed_from 1 legs)) (took_is read config events after worked) first))

-- a run is what the worker did in its turns and when it ended
pub run_goes : (w : Wording) (before : WorkerParts) (left : WorkerLeft) (runs : Runs w before left)
    → Goes w.decoding before (works_in runs) left.parts
run_goes w before left runs =
    goes_on w.decoding before runs.at left.parts runs.turns
    (last_calls runs.at.session.phase ++ map (λ leg. Drops leg) runs.dropped) runs.goes runs.last

ran_worked : (w : Wording) (config : ConfigParts) (events : List VenueEvent) (after : WorkerParts)
    → Ran w config events after → Worked w.decoding config events after
ran_worked w config events after ran = record {
  before = ran.before;
  new = ran.new;
  empty = ran.empty;
  goes = subst (λ works. Goes w.decoding ran.before works after) (sym ran.works)
      (run_goes w ran.before _ ran.runs);
}

-- and each leg that it took was the next one
next_of : (w : Wording) (config : ConfigParts) (legs : List Leg) (events : List VenueEvent) (after : WorkerParts)
    → Ran w config events after → IsPrefix after.took.taken (placed_from 1 legs)
    → AllTakeNext w.decoding (released_line config legs) events
next_of w config legs events after ran first =
    each_is_next w.decoding (released_line config legs) [] events refl
    (subst (λ l. IsPrefix l (placed_from 1 legs))
    (took_is w.decoding config events after (ran_worked w config events after ran)) first)

pub the_run_theorem : (w : Wording) → TheRunTheorem w
unfolding ran_worked
the_run_theorem w config legs events after small ran may first =
    the_taken_theorem w.decoding config legs events after small (ran_worked w config events after ran) may first

-- each note that was given along the events is on an accepted leg
notes_along : (read : Decoding) (config : ConfigParts) (legs : List Leg) (events : List VenueEvent)
    → config.max_number ≤ 999999999 → MayAllHappen read (released_line config legs) events
    → AllTakeNext read (released_line config legs) events
    → NotesAreOnAccepted (after_events read (released_line config legs) events)
notes_along read config legs events small may next =
    let a = released_line config legs in
    let w = after_events read a events in
    let leads = events_lead read a events may next in
    holds_at_last NotesAreOnAccepted a w leads
    (the_notes_theorem config (a ∷ leads.lines) small (line.releases legs refl, leads.steps))

pub the_day_theorem : (w : Wording) → TheDayTheorem w
the_day_theorem w callers queues seats report day venue config events after took sits small ran new may =
    let legs = released venue day.desk.desk.sweeps in
    let start = released_line config legs in
    let end = after_events w.decoding start events in
    let first = day.audits.0 venue after.took (slice_get_within queues venue after.took took) took in
    let line = the_run_theorem w config legs events after small ran may first in
    let next = next_of w config legs events after ran first in
    let whole = released_whole config legs small in
    let asks = asks_along w.decoding start events may next whole in
    let within = taken_within after.took.taken legs first in
    let own = own_ids venue day.desk.desk.sweeps start end refl asks.stays (let e = line.left in omega arith) in
    let ended = (leads_safely start end (events_lead w.decoding start events may next) whole).0 in
    let lasts = ran.runs.last.seat ∙ ran.runs.goes.seat in
    let of_venue = ap (λ (l : Lasting). l.venue) lasts ∙ ap (λ (s : Seat). s.venue) new in
    let asked = withdrawn_by w.decoding start.session (works_of events) in
    let none = ap (λ (s : Seat). s.booked) new in
    let none_asked = ap (λ (s : Seat). s.asked) new in
    let notes = line.booked ∙ ap (λ l. l ++ end.given) none in
    record {
      line = line;
      shares = shares_at day.book seats venue after.seat end.given asked day.book_replays day.kept sits of_venue
          notes (line.asked ∙ ap (λ l. l ++ asked) none_asked)
          (asks.once own)
          (spared_by end asked ended own (notes_along w.decoding config legs events small may next)
          (λ id there. (asks.each id there).gone));
      told = told_at (counted_of day) seats venue after.seat end.given day.kept day.left sits of_venue notes;
    }

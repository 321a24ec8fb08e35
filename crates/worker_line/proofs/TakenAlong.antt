-- What a worker's line comes to along the events: its session, the notes that were booked, and the legs taken.
use Rattle.std.proofs.Common.{◌≡◌, ◌+◌, ℕ, suc, List, [], ◌∷◌, ◌++◌, length, drop, refl, sym, ap, subst, ◌∙◌, append_assoc, length-append, arith}
use Rattle.std.specs.Prelude.{option_to_list, Option, Some, None, if◌then◌else◌}
use Rattle.std.specs.Option.{option_or}
use Rattle.std.proofs.lemmas.List.{append-nil}
use mathlib.Core.List.{IsPrefix}
use Rattle.leg.specs.declared.leg.Leg.{Leg}
use Rattle.leg.specs.declared.placed_leg.PlacedLeg.{PlacedLeg}
use Rattle.dialect.specs.declared.note.Note.{Note}
use Rattle.dialect.specs.Message.{decoded}
use Rattle.dialect.specs.Wording.{Decoding}
use Rattle.session_core.specs.declared.session_call.SessionCall.{SessionCall}
use Rattle.session_core.specs.declared.session_call.SessionCall.TheVariants as call
use Rattle.session_core.specs.Trial.{called, after_calls}
use Rattle.release_lock.specs.Queues.{placed_from}
use Rattle.session_core.specs.Receiving.{receive, confirm}
use Rattle.venue_line.specs.Line.{Line, noted, latest}
use Rattle.session_worker.specs.Booking.{booked_by}
use Rattle.session_worker.specs.Events.{WorkerEvent, calls_of, taken_in, taken_of}
use Rattle.session_worker.specs.Events.WorkerEvent.{Calls, Drops, Fails}
use Rattle.worker_line.specs.Happening.{VenueEvent, works_of, after_called, after_doing, after_event, after_events, AllTakeNext}
use Rattle.worker_line.specs.Happening.VenueEvent.{Works, Exchanges, Releases}

-- a call changes the session as it does, and nothing of the desk
pub called_session : (read : Decoding) (a : Line) (made : SessionCall)
    → (after_called read a made).session ≡ (called read a.session made).1
called_session read a (call.Receive envelope) = refl
called_session read a call.Confirm = refl
called_session read a call.Connect = refl
called_session read a (call.SendLeg ordinal leg) = refl
called_session read a call.Quiet = refl
called_session read a call.Silent = refl
called_session read a call.Close = refl
called_session read a call.Malformed = refl
called_session read a call.Broken = refl
called_session read a call.Abandon = refl

called_released : (read : Decoding) (a : Line) (made : SessionCall) → (after_called read a made).released ≡ a.released
called_released read a (call.Receive envelope) = refl
called_released read a call.Confirm = refl
called_released read a call.Connect = refl
called_released read a (call.SendLeg ordinal leg) = refl
called_released read a call.Quiet = refl
called_released read a call.Silent = refl
called_released read a call.Close = refl
called_released read a call.Malformed = refl
called_released read a call.Broken = refl
called_released read a call.Abandon = refl

pub doing_released : (read : Decoding) (a : Line) (event : WorkerEvent) → (after_doing read a event).released ≡ a.released
doing_released read a (Calls made) = called_released read a made
doing_released read a (Drops leg) = refl
doing_released read a (Fails leg) = refl

pub session_along : (read : Decoding) (a : Line) (events : List VenueEvent)
    → (after_events read a events).session ≡ after_calls read a.session (calls_of (works_of events))
session_along read a [] = refl
session_along read a (Works (Calls made) ∷ events) =
    session_along read (after_event read a (Works (Calls made))) events
    ∙ ap (λ s. after_calls read s (calls_of (works_of events))) (called_session read a made)
session_along read a (Works (Drops leg) ∷ events) = session_along read (after_event read a (Works (Drops leg))) events
session_along read a (Works (Fails leg) ∷ events) = session_along read (after_event read a (Works (Fails leg))) events
session_along read a (Exchanges coming t written ∷ events) =
    session_along read (after_event read a (Exchanges coming t written)) events
session_along read a (Releases legs ∷ events) = session_along read (after_event read a (Releases legs)) events

-- the note that waits, as a line has it and as a worker's calls do
noted_list : (note : Option Note) → noted note ≡ option_to_list note
noted_list None = refl
noted_list (Some note) = refl

latest_or : (earlier given : Option Note) → latest earlier given ≡ option_or given earlier
latest_or earlier None = refl
latest_or earlier (Some note) = refl

-- and the notes that were booked
pub given_along : (read : Decoding) (a : Line) (events : List VenueEvent)
    → (after_events read a events).given ≡ a.given ++ booked_by read a.session a.waiting (calls_of (works_of events))
given_along read a [] = sym (append-nil a.given)
given_along read a (Works (Calls (call.Receive envelope)) ∷ events) =
    let turn = receive a.session (decoded read envelope) in
    given_along read (after_event read a (Works (Calls (call.Receive envelope)))) events
    ∙ ap (λ waiting. a.given ++ booked_by read turn.session waiting (calls_of (works_of events)))
    (latest_or a.waiting turn.step.note)
given_along read a (Works (Calls call.Confirm) ∷ events) =
    let now = if a.session.current.pending then noted a.waiting else [] in
    given_along read (after_event read a (Works (Calls call.Confirm))) events
    ∙ (append_assoc a.given now (booked_by read (confirm a.session) a.waiting (calls_of (works_of events)))
    ∙ ap (λ l. a.given ++ ((if a.session.current.pending then l else [])
    ++ booked_by read (confirm a.session) a.waiting (calls_of (works_of events)))) (noted_list a.waiting))
given_along read a (Works (Calls (call.SendLeg ordinal leg)) ∷ events) =
    given_along read (after_event read a (Works (Calls (call.SendLeg ordinal leg)))) events
given_along read a (Works (Calls call.Connect) ∷ events) =
    given_along read (after_event read a (Works (Calls call.Connect))) events
given_along read a (Works (Calls call.Quiet) ∷ events) =
    given_along read (after_event read a (Works (Calls call.Quiet))) events
given_along read a (Works (Calls call.Silent) ∷ events) =
    given_along read (after_event read a (Works (Calls call.Silent))) events
given_along read a (Works (Calls call.Close) ∷ events) =
    given_along read (after_event read a (Works (Calls call.Close))) events
given_along read a (Works (Calls call.Malformed) ∷ events) =
    given_along read (after_event read a (Works (Calls call.Malformed))) events
given_along read a (Works (Calls call.Broken) ∷ events) =
    given_along read (after_event read a (Works (Calls call.Broken))) events
given_along read a (Works (Calls call.Abandon) ∷ events) =
    given_along read (after_event read a (Works (Calls call.Abandon))) events
given_along read a (Works (Drops leg) ∷ events) = given_along read (after_event read a (Works (Drops leg))) events
given_along read a (Works (Fails leg) ∷ events) = given_along read (after_event read a (Works (Fails leg))) events
given_along read a (Exchanges coming t written ∷ events) =
    given_along read (after_event read a (Exchanges coming t written)) events
given_along read a (Releases legs ∷ events) = given_along read (after_event read a (Releases legs)) events

-- these legs were taken, the first of those released
pub record HasTaken (a : Line) (taken : List PlacedLeg) : Type 0 where
  pub left : a.left ≡ length taken
  pub first : IsPrefix taken (placed_from 1 a.released)

placed-append : (from : ℕ) (released more : List Leg)
    → placed_from from (released ++ more) ≡ placed_from from released ++ placed_from (length released + from) more
placed-append from [] more =
    let same : from ≡ length {A = Leg} [] + from = omega arith in
    ap (λ n. placed_from n more) same
placed-append from (leg ∷ released) more =
    let count : length released + suc from ≡ length (leg ∷ released) + from = omega arith in
    ap (λ l. record { ordinal = from; leg = leg } ∷ l)
    (placed-append (suc from) released more
    ∙ ap (λ n. placed_from (suc from) released ++ placed_from n more) count)

drop_seam : (xs ys : List PlacedLeg) → drop (length xs) (xs ++ ys) ≡ ys
drop_seam [] ys = refl
drop_seam (x ∷ xs) ys = drop_seam xs ys

-- what is behind those that were taken
behind : (a : Line) (taken : List PlacedLeg) (has : HasTaken a taken)
    → drop a.left (placed_from 1 a.released) ≡ has.first.0
behind a taken has =
    ap (λ n. drop n (placed_from 1 a.released)) has.left
    ∙ (ap (drop (length taken)) (sym has.first.1) ∙ drop_seam taken has.first.0)

released_more : (a : Line) (taken : List PlacedLeg) (legs : List Leg) → HasTaken a taken
    → HasTaken (record a { released = a.released ++ legs }) taken
released_more a taken legs has =
    let more = placed_from (length a.released + 1) legs in
    record {
      left = has.left;
      first = (
        has.first.0 ++ more,
        sym (append_assoc taken has.first.0 more)
            ∙ (ap (λ l. l ++ more) has.first.1 ∙ sym (placed-append 1 a.released legs)),
      );
    }

-- some more were
works_more : (read : Decoding) (a : Line) (taken : List PlacedLeg) (event : WorkerEvent) → HasTaken a taken
    → IsPrefix (taken_in event) (drop a.left (placed_from 1 a.released))
    → HasTaken (after_event read a (Works event)) (taken ++ taken_in event)
works_more read a taken event has next = record {
  left = (let e = has.left in omega (arith, length-append taken (taken_in event)));
  first =
      subst (λ r. IsPrefix (taken ++ taken_in event) (placed_from 1 r)) (sym (doing_released read a event)) (
        next.0,
        append_assoc taken (taken_in event) next.0
            ∙ (ap (λ l. taken ++ l) (next.1 ∙ behind a taken has) ∙ has.first.1),
      );
}

pub taken_along : (read : Decoding) (a : Line) (taken : List PlacedLeg) (events : List VenueEvent) → HasTaken a taken
    → AllTakeNext read a events
    → HasTaken (after_events read a events) (taken ++ taken_of (works_of events))
taken_along read a taken [] has next = subst (HasTaken a) (sym (append-nil taken)) has
taken_along read a taken (Works event ∷ events) has next =
    let b = after_event read a (Works event) in
    subst (HasTaken (after_events read b events))
    (append_assoc taken (taken_in event) (taken_of (works_of events)))
    (taken_along read b (taken ++ taken_in event) events (works_more read a taken event has next.0) next.1)
taken_along read a taken (Exchanges coming t written ∷ events) has next =
    taken_along read (after_event read a (Exchanges coming t written)) taken events
    (record { left = has.left; first = has.first }) next.1
taken_along read a taken (Releases legs ∷ events) has next =
    taken_along read (after_event read a (Releases legs)) taken events (released_more a taken legs has) next.1

-- the other way round: where the legs that are taken are the first of those released, each is the next one
pub each_is_next : (read : Decoding) (a : Line) (taken : List PlacedLeg) (events : List VenueEvent)
    → a.left ≡ length taken → IsPrefix (taken ++ taken_of (works_of events)) (placed_from 1 a.released)
    → AllTakeNext read a events
each_is_next read a taken [] left first = tt
each_is_next read a taken (Works event ∷ events) left first =
    let now = taken_in event in
    let later = taken_of (works_of events) in
    let split : (taken ++ (now ++ later)) ++ first.0 ≡ taken ++ (now ++ (later ++ first.0)) =
    append_assoc taken (now ++ later) first.0 ∙ ap (λ l. taken ++ l) (append_assoc now later first.0) in
    let whole = sym split ∙ first.1 in
    let b = after_event read a (Works event) in (
      (
        later ++ first.0,
        sym (drop_seam taken (now ++ (later ++ first.0)))
            ∙ (ap (drop (length taken)) whole ∙ ap (λ n. drop n (placed_from 1 a.released)) (sym left)),
      ),
      each_is_next read b (taken ++ now) events (omega (arith, length-append taken now))
          (subst (λ r. IsPrefix ((taken ++ now) ++ later) (placed_from 1 r)) (sym (doing_released read a event))
          (first.0, ap (λ l. l ++ first.0) (append_assoc taken now later) ∙ first.1)),
    )
each_is_next read a taken (Exchanges coming t written ∷ events) left first =
    (tt, each_is_next read (after_event read a (Exchanges coming t written)) taken events left first)
each_is_next read a taken (Releases legs ∷ events) left first =
    let more = placed_from (length a.released + 1) legs in
    let all = taken ++ taken_of (works_of events) in (
      tt,
      each_is_next read (after_event read a (Releases legs)) taken events left (
        first.0 ++ more,
        sym (append_assoc all first.0 more)
            ∙ (ap (λ l. l ++ more) first.1 ∙ sym (placed-append 1 a.released legs)),
      ),
    )

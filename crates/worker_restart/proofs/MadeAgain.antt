-- A worker that begins with what its journal has restarts from the life before.
use Rattle.std.proofs.Common.{◌≡◌, ◌≤◌, ◌+◌, ℕ, suc, false, List, [], ◌∷◌, ◌++◌, length, Some, None, refl, sym, ap, subst, ◌∙◌, append_assoc, length-append, arith}
use Rattle.std.specs.Prelude.{Option}
use Rattle.std.proofs.lemmas.List.{append-nil}
use mathlib.Core.List.{IsPrefix}
use Rattle.fix_tags.specs.Config.{ConfigParts}
use Rattle.leg.specs.declared.leg.Leg.{Leg}
use Rattle.leg.specs.declared.placed_leg.PlacedLeg.{PlacedLeg}
use Rattle.dialect.specs.declared.note.Note.{Note}
use Rattle.dialect.specs.Wording.{Decoding}
use Rattle.session_core.specs.declared.session_call.SessionCall.TheVariants as call
use Rattle.session_core.specs.Session.{SessionParts, new_session, is_connected}
use Rattle.session_core.specs.Calling.{broken}
use Rattle.session_core.specs.Trial.{after_calls, IsReadCall, AreRead}
use Rattle.session_core.proofs.CallsMade.{after-append}
use Rattle.session_core.proofs.Sound.{all-append}
use Rattle.release_lock.specs.Queues.{placed_from}
use Rattle.venue_line.specs.Line.{Line}
use Rattle.session_worker.specs.Booking.{waiting_after, booked_by}
use Rattle.session_worker.specs.Events.{WorkerEvent, WorkerParts, Lasting, calls_in, calls_of, taken_in, taken_of, withdrawn_in, withdrawn_by, AreAllowed, Goes}
use Rattle.session_worker.specs.Events.WorkerEvent.{Calls}
use Rattle.session_worker.proofs.Booking.{booked-append}
use Rattle.worker_line.specs.Happening.{VenueEvent, works_of, after_event, after_events}
use Rattle.worker_line.specs.Happening.VenueEvent.{Works, Exchanges, Releases}
use Rattle.worker_line.proofs.SameConnection.{broken_off}
use Rattle.worker_line.proofs.TakenAlong.{doing_released, session_along}
use Rattle.worker_restart.specs.WorkerLives.{WorkerLife, durable_at, killed_at, WorkerRestarts}
use Rattle.worker_restart.specs.LivesByBytes.{IsMadeAgain, IsPastLife, line_behind, with_gone, found_behind}

-- ---- events, and then others

calls-append : (first more : List WorkerEvent) → calls_of (first ++ more) ≡ calls_of first ++ calls_of more
calls-append [] more = refl
calls-append (event ∷ first) more =
    ap (λ l. calls_in event ++ l) (calls-append first more)
    ∙ sym (append_assoc (calls_in event) (calls_of first) (calls_of more))

taken-append : (first more : List WorkerEvent) → taken_of (first ++ more) ≡ taken_of first ++ taken_of more
taken-append [] more = refl
taken-append (event ∷ first) more =
    ap (λ l. taken_in event ++ l) (taken-append first more)
    ∙ sym (append_assoc (taken_in event) (taken_of first) (taken_of more))

module _ (read : Decoding) (s : SessionParts) where
  after-events : (first more : List WorkerEvent)
      → after_calls read s (calls_of (first ++ more))
      ≡ after_calls read (after_calls read s (calls_of first)) (calls_of more)
  after-events first more =
      ap (after_calls read s) (calls-append first more) ∙ after-append read s (calls_of first) (calls_of more)

  booked-events : (waiting : Option Note) (first more : List WorkerEvent)
      → booked_by read s waiting (calls_of (first ++ more))
      ≡ booked_by read s waiting (calls_of first)
      ++ booked_by read (after_calls read s (calls_of first)) (waiting_after read s waiting (calls_of first)) (calls_of more)
  booked-events waiting first more =
      ap (booked_by read s waiting) (calls-append first more)
      ∙ booked-append read s waiting (calls_of first) (calls_of more)

withdrawn-events : (read : Decoding) (s : SessionParts) (first more : List WorkerEvent)
    → withdrawn_by read s (first ++ more)
    ≡ withdrawn_by read s first ++ withdrawn_by read (after_calls read s (calls_of first)) more
withdrawn-events read s [] more = refl
withdrawn-events read s (event ∷ first) more =
    let t = after_calls read s (calls_in event) in
    let later : after_calls read t (calls_of first) ≡ after_calls read s (calls_in event ++ calls_of first) =
    sym (after-append read s (calls_in event) (calls_of first)) in
    ap (λ l. withdrawn_in read s event ++ l) (withdrawn-events read t first more
    ∙ ap (λ (u : SessionParts). withdrawn_by read t first ++ withdrawn_by read u more) later)
    ∙ sym (append_assoc (withdrawn_in read s event) (withdrawn_by read t first)
    (withdrawn_by read (after_calls read s (calls_in event ++ calls_of first)) more))

allowed-append : (read : Decoding) (s : SessionParts) (first more : List WorkerEvent) → AreAllowed read s first
    → AreAllowed read (after_calls read s (calls_of first)) more → AreAllowed read s (first ++ more)
allowed-append read s [] more all rest = rest
allowed-append read s (event ∷ first) more all rest = (
  all.0,
  allowed-append read (after_calls read s (calls_in event)) first more all.1
      (subst (λ (t : SessionParts). AreAllowed read t more) (after-append read s (calls_in event) (calls_of first)) rest),
)

-- ---- what a life's line comes to

-- so many legs more have left as were taken
left_along : (read : Decoding) (a : Line) (events : List VenueEvent)
    → (after_events read a events).left ≡ length (taken_of (works_of events)) + a.left
left_along read a [] = omega arith
left_along read a (Works event ∷ events) =
    let rest = left_along read (after_event read a (Works event)) events in
    let sum = length-append (taken_in event) (taken_of (works_of events)) in
    omega (arith, rest, sum)
left_along read a (Exchanges coming t written ∷ events) =
    left_along read (after_event read a (Exchanges coming t written)) events
left_along read a (Releases legs ∷ events) = left_along read (after_event read a (Releases legs)) events

-- legs are released behind the others
released_along : (read : Decoding) (a : Line) (events : List VenueEvent)
    → (more : List Leg) × ((after_events read a events).released ≡ a.released ++ more)
released_along read a [] = ([], sym (append-nil a.released))
released_along read a (Works event ∷ events) =
    let rest = released_along read (after_event read a (Works event)) events in
    (rest.0, rest.1 ∙ ap (λ l. l ++ rest.0) (doing_released read a event))
released_along read a (Exchanges coming t written ∷ events) =
    released_along read (after_event read a (Exchanges coming t written)) events
released_along read a (Releases legs ∷ events) =
    let rest = released_along read (after_event read a (Releases legs)) events in
    (legs ++ rest.0, rest.1 ∙ append_assoc a.released legs rest.0)

placed_length : (from : ℕ) (legs : List Leg) → length (placed_from from legs) ≡ length legs
placed_length from [] = refl
placed_length from (leg ∷ legs) = (let rest = placed_length (suc from) legs in omega (arith, rest))

-- the first of some are at most as many
few_first : (taken more rest : List PlacedLeg) (legs : List Leg) → IsPrefix ((taken ++ more) ++ rest) (placed_from 1 legs)
    → length (taken ++ more) ≤ length legs
few_first taken more rest legs first =
    let all = ap length first.1 in
    let outer = length-append ((taken ++ more) ++ rest) first.0 in
    let inner = length-append (taken ++ more) rest in
    let many = placed_length 1 legs in
    omega (arith, all, outer, inner, many)

-- ---- from one life to the next

module _ (read : Decoding) (config : ConfigParts) where
  abbrev new : SessionParts
  new = new_session config

  -- a connection that is gone takes no leg, books no note, and withdraws no leg
  gone_session : (found : List WorkerEvent)
      → after_calls read new (calls_of (with_gone found)) ≡ broken (after_calls read new (calls_of found))
  gone_session [] = refl
  gone_session (event ∷ found) = after-events read new (event ∷ found) (Calls call.Broken ∷ [])

  gone_taken : (found : List WorkerEvent) → taken_of (with_gone found) ≡ taken_of found
  gone_taken [] = refl
  gone_taken (event ∷ found) =
      taken-append (event ∷ found) (Calls call.Broken ∷ []) ∙ append-nil (taken_of (event ∷ found))

  gone_booked : (found : List WorkerEvent)
      → booked_by read new None (calls_of (with_gone found)) ≡ booked_by read new None (calls_of found)
  gone_booked [] = refl
  gone_booked (event ∷ found) =
      booked-events read new None (event ∷ found) (Calls call.Broken ∷ [])
      ∙ append-nil (booked_by read new None (calls_of (event ∷ found)))

  gone_asked : (found : List WorkerEvent) → withdrawn_by read new (with_gone found) ≡ withdrawn_by read new found
  gone_asked [] = refl
  gone_asked (event ∷ found) =
      withdrawn-events read new (event ∷ found) (Calls call.Broken ∷ [])
      ∙ append-nil (withdrawn_by read new (event ∷ found))

  gone_heard : (found : List WorkerEvent) → AreRead read (calls_of found) → AreRead read (calls_of (with_gone found))
  gone_heard [] heard = tt
  gone_heard (event ∷ found) heard =
      subst (AreRead read) (sym (calls-append (event ∷ found) (Calls call.Broken ∷ [])))
      (all-append (IsReadCall read) (calls_of (event ∷ found)) (call.Broken ∷ []) heard (tt, tt))

  -- what a start makes of a new worker
  pub record Made (venue : ℕ) (found : List WorkerEvent) (worker : WorkerParts) : Type 0 where
    pub session : worker.session ≡ broken (after_calls read new (calls_of found))
    pub taken : worker.took.taken ≡ taken_of found
    pub place : worker.seat.venue ≡ Some venue
    pub booked : worker.seat.booked ≡ booked_by read new None (calls_of found)
    pub asked : worker.seat.asked ≡ withdrawn_by read new found

  pub made_of : (venue : ℕ) (found : List WorkerEvent) (worker : WorkerParts)
      → IsMadeAgain read config venue found worker → Made venue found worker
  made_of venue found worker goes =
      let gone : List WorkerEvent = Calls call.Broken ∷ [] in
      record {
        session = goes.session ∙ after-events read new found gone;
        taken = goes.taken ∙ (taken-append found gone ∙ append-nil (taken_of found));
        place = ap (λ (l : Lasting). l.venue) goes.seat;
        booked = goes.booked None
            ∙ (booked-events read new None found gone ∙ append-nil (booked_by read new None (calls_of found)));
        asked = goes.asked ∙ (withdrawn-events read new found gone ∙ append-nil (withdrawn_by read new found));
      }

  -- and what was found behind a life was allowed, where what it found was
  gone_allowed : (found : List WorkerEvent) → AreAllowed read new (found ++ Calls call.Broken ∷ [])
      → AreAllowed read new (with_gone found)
  gone_allowed [] all = tt
  gone_allowed (event ∷ found) all = all

  pub allowed_behind : (venue : ℕ) (found : List WorkerEvent) (life : WorkerLife)
      → IsMadeAgain read config venue found life.worker → Goes read life.worker (works_of life.durable) life.kept
      → AreAllowed read new (found_behind found life)
  allowed_behind venue found life made goes =
      let same = (made_of venue found life.worker made).session ∙ sym (gone_session found) in
      allowed-append read new (with_gone found) (works_of life.durable) (gone_allowed found made.allowed)
      (subst (λ (s : SessionParts). AreAllowed read s (works_of life.durable)) same goes.allowed)

  pub allowed_gone : (found : List WorkerEvent) → AreAllowed read new found
      → AreAllowed read new (found ++ Calls call.Broken ∷ [])
  allowed_gone found all = allowed-append read new found (Calls call.Broken ∷ []) all (tt, tt)

  module _ (legs : List Leg) where
    -- a line on which a life begins that finds these events
    pub record Begins (found : List WorkerEvent) (a : Line) : Type 0 where
      pub session : a.session ≡ broken (after_calls read new (calls_of found))
      pub off : is_connected a.session.phase ≡ false
      pub heard : AreRead read (calls_of found)
      pub left : a.left ≡ length (taken_of found)
      pub released : a.released ≡ legs

    module _ (found : List WorkerEvent) (a : Line) (life : WorkerLife) (begins : Begins found a) (start : life.start ≡ a)
        (past : IsPastLife read legs life) where
      abbrev durable : List WorkerEvent
      durable = works_of life.durable

      abbrev d : Line
      d = durable_at read life

      abbrev s : SessionParts
      s = broken (after_calls read new (calls_of found))

      left_is : d.left ≡ length (taken_of found ++ taken_of durable)
      left_is =
          let along = left_along read life.start life.durable in
          let from = ap (λ (w : Line). w.left) start in
          let was = begins.left in
          let sum = length-append (taken_of found) (taken_of durable) in
          omega (arith, along, from, was, sum)

      session_is : d.session ≡ after_calls read s (calls_of durable)
      session_is =
          session_along read life.start life.durable
          ∙ ap (λ t. after_calls read t (calls_of durable)) (ap (λ (w : Line). w.session) start ∙ begins.session)

      after_is : after_calls read new (calls_of (found_behind found life)) ≡ after_calls read s (calls_of durable)
      after_is =
          after-events read new (with_gone found) durable
          ∙ ap (λ t. after_calls read t (calls_of durable)) (gone_session found)

      taken_is : taken_of (found_behind found life) ≡ taken_of found ++ taken_of durable
      taken_is =
          taken-append (with_gone found) durable ∙ ap (λ l. l ++ taken_of durable) (gone_taken found)

      heard_is : AreRead read (calls_of (found_behind found life))
      heard_is =
          subst (AreRead read) (sym (calls-append (with_gone found) durable))
          (all-append (IsReadCall read) (calls_of (with_gone found)) (calls_of durable) (gone_heard found begins.heard)
          past.heard)

      pub begins_behind : Begins (found_behind found life) (line_behind read legs life)
      begins_behind = record {
        session = ap broken (session_is ∙ sym after_is);
        off = broken_off d.session;
        heard = heard_is;
        left = left_is ∙ ap length (sym taken_is);
        released = refl;
      }

      -- the next worker
      module _ (venue : ℕ) (made : Made venue found life.worker) (next : WorkerLife)
          (next_start : next.start ≡ line_behind read legs life)
          (again : Made venue (found_behind found life) next.worker) where
        abbrev goes : Goes read life.worker durable life.kept
        goes = past.run.goes

        kept_taken : life.kept.took.taken ≡ taken_of found ++ taken_of durable
        kept_taken = goes.taken ∙ ap (λ l. l ++ taken_of durable) made.taken

        kept_session : life.kept.session ≡ after_calls read s (calls_of durable)
        kept_session = goes.session ∙ ap (λ t. after_calls read t (calls_of durable)) made.session

        kept_booked : life.kept.seat.booked ≡ booked_by read new None (calls_of (found_behind found life))
        kept_booked =
            let waiting = waiting_after read new None (calls_of (with_gone found)) in
            let first = booked_by read new None (calls_of found) in
            goes.booked waiting
            ∙ (ap (λ l. l ++ booked_by read life.worker.session waiting (calls_of durable)) made.booked
            ∙ (ap (λ t. first ++ booked_by read t waiting (calls_of durable)) (made.session ∙ sym (gone_session found))
            ∙ sym (booked-events read new None (with_gone found) durable
            ∙ ap (λ l. l ++ booked_by read (after_calls read new (calls_of (with_gone found))) waiting (calls_of durable))
            (gone_booked found))))

        kept_asked : life.kept.seat.asked ≡ withdrawn_by read new (found_behind found life)
        kept_asked =
            let first = withdrawn_by read new found in
            goes.asked
            ∙ (ap (λ l. l ++ withdrawn_by read life.worker.session durable) made.asked
            ∙ (ap (λ t. first ++ withdrawn_by read t durable) (made.session ∙ sym (gone_session found))
            ∙ sym (withdrawn-events read new (with_gone found) durable
            ∙ ap (λ l. l ++ withdrawn_by read (after_calls read new (calls_of (with_gone found))) durable)
            (gone_asked found))))

        few : d.left ≤ length legs
        few =
            let took : life.ended.took.taken ≡ (taken_of found ++ taken_of durable) ++ taken_of (works_of life.lost) =
            past.run.more.taken ∙ ap (λ l. l ++ taken_of (works_of life.lost)) kept_taken in
            let low = few_first (taken_of found) (taken_of durable) (taken_of (works_of life.lost)) legs
            (subst (λ l. IsPrefix l (placed_from 1 legs)) took past.first) in
            let is = left_is in
            omega (arith, low, is)

        -- what was released beside these legs
        more_released : (more : List Leg) × ((killed_at read life).released ≡ legs ++ more)
        more_released =
            let first = released_along read life.start life.durable in
            let then = released_along read d life.lost in (
              first.0 ++ then.0,
              then.1
                  ∙ (ap (λ l. l ++ then.0) (first.1 ∙ ap (λ l. l ++ first.0)
                  (ap (λ (w : Line). w.released) start ∙ begins.released))
                  ∙ append_assoc legs first.0 then.0),
            )

        pub restarts : WorkerRestarts read life next
        restarts = record {
          kept = legs;
          forgotten = more_released.0;
          released = more_released.1;
          whole = few;
          start = next_start;
          session = again.session ∙ ap broken (after_is ∙ sym kept_session);
          took = again.taken ∙ (taken_is ∙ sym kept_taken);
          venue = again.place ∙ sym (ap (λ (l : Lasting). l.venue) goes.seat ∙ made.place);
          booked = again.booked ∙ sym kept_booked;
          asked = again.asked ∙ sym kept_asked;
        }

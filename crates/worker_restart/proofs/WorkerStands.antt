-- A worker stands as its line does, through each of its lives.
use Rattle.std.proofs.Common.{◌≡◌, ◌≤◌, ◌<◌, ◌⊎◌, ℕ, zero, suc, List, [], ◌∷◌, ◌++◌, length, take, drop, refl, sym, ap, subst, ◌∙◌, inl, inr, append_assoc, arith}
use Rattle.std.specs.Prelude.{slice_get}
use Rattle.std.specs.List.{Contains, IsDistinct}
use Rattle.std.proofs.lemmas.List.{append-nil, take-append-drop}
use Rattle.std.proofs.lemmas.List.Elements.{All-weaker, Contains-append_cases, Contains-append_left, Contains-append_right}
use Rattle.std.proofs.lemmas.Option.{same_Some}
use Rattle.std.proofs.Math.Seq.{take-append_seam}
use mathlib.Core.List.{IsPrefix}
use Rattle.fix_tags.specs.Config.{ConfigParts}
use Rattle.leg.specs.LegId.{LegIdParts}
use Rattle.leg.specs.Numbered.{numbered}
use Rattle.leg.specs.declared.leg.Leg.{Leg}
use Rattle.leg.specs.declared.placed_leg.PlacedLeg.{PlacedLeg}
use Rattle.dialect.specs.Wording.{Decoding}
use Rattle.session_core.specs.Calling.{broken}
use Rattle.session_core.specs.Trial.{after_calls}
use Rattle.share_ledger.specs.Entries.{is_same_leg}
use Rattle.release_lock.specs.Queues.{placed_from}
use Rattle.exec_collector.specs.Seats.{Seat}
use Rattle.venue_line.specs.Line.{Line}
use Rattle.venue_line.specs.LineTheorem.{IsWithdrawnLeg, LineHolds}
use Rattle.venue_line.proofs.Kept.{numbered_there}
use Rattle.venue_line.proofs.GivenSteps.{Whole}
use Rattle.venue_line.proofs.PastLines.{IsPast}
use Rattle.venue_line.proofs.Leading.{leads_past}
use Rattle.line_notes.specs.NotesTheorem.{NotesAreOnAccepted}
use Rattle.line_notes.proofs.NotesGiven.{notes_on}
use Rattle.line_restart.specs.Lives.{restarted}
use Rattle.line_restart.specs.RestartTheorem.{IsReached}
use Rattle.line_restart.proofs.Cut.{kept_leg}
use Rattle.line_restart.proofs.KnownLegs.{broken_log}
use Rattle.line_restart.proofs.Reached.{reached_whole, reached_holds, reached_noted}
use Rattle.session_worker.specs.Booking.{booked_by}
use Rattle.session_worker.specs.Events.{WorkerParts, Lasting, calls_of, withdrawn_by, Goes}
use Rattle.worker_line.specs.Gone.{HaveOwnIds, IsGoneLeg, AreGone}
use Rattle.worker_line.specs.Happening.{VenueEvent, works_of, after_events, MayAllHappen, AllTakeNext}
use Rattle.worker_line.proofs.TakenAlong.{HasTaken, session_along, given_along, taken_along}
use Rattle.worker_line.proofs.AskedLegs.{Asks, own_before, none_in, distinct-none, distinct-append, gone_later, whole_before, not_again}
use Rattle.worker_line.proofs.AskedAlong.{events_lead, asks_along}
use Rattle.worker_line.proofs.Spared.{spared_by}
use Rattle.worker_restart.specs.WorkerLives.{WorkerLife, durable_at, killed_at, IsWorkerLife, WorkerRestarts, AreWorkerLives, last_life, lives_moments, IsNewWorker}
use Rattle.worker_restart.specs.WorkerRestartTheorem.{IsWorkerOf, StandsThrough, AllStandThrough, TheWorkerRestartTheorem}
use Rattle.worker_restart.proofs.WorkerReached.{events_reached, durable_reached, lives_reached, restart_reached, released_reached}
use Rattle.worker_restart.proofs.WorkerStays.{whole_after, same_gone, worker_accepted, worker_never_accepted, worker_withdrawn, worker_given}

-- the legs asked for on a line, and then on a later one
module _ (a w : Line) (before asked : List LegIdParts) (h : Whole a) (gone : AreGone a before) (asks : Asks a w asked) where
  gone_each : (id : LegIdParts) → Contains before id ⊎ Contains asked id → IsGoneLeg w id
  gone_each id (inl old) = gone_later a w asks.stays id (gone.each id old)
  gone_each id (inr new) = (asks.each id new).gone

  gone_along : AreGone w (before ++ asked)
  gone_along = record {
    each = λ id there. gone_each id (Contains-append_cases before asked id there);
    all = λ id is.
        elim (asks.all is.ordinal is.leg is.whole is.withdrawn) [
          | inl was ↦
              Contains-append_left before asked id
              (gone.all id (record {
                ordinal = is.ordinal;
                leg = is.leg;
                whole = whole_before a w asks.stays h.0 is.ordinal is.leg is.whole was;
                same = is.same;
                withdrawn = was;
              }))
          | inr there ↦ Contains-append_right before asked id (subst (Contains asked) is.same there)
        ];
  }

  once_along : (HaveOwnIds a → IsDistinct is_same_leg before) → HaveOwnIds w → IsDistinct is_same_leg (before ++ asked)
  once_along once own =
      distinct-append before asked (once (own_before a w asks.left asks.stays own)) (asks.once own)
      (λ id here there. not_again a w asks.stays asks.left own id (gone.each id here) (asks.each id there))

module _ (read : Decoding) (base : Seat) where
  -- along the events of a worker
  along : (a : Line) (worker after : WorkerParts) (events : List VenueEvent) → Whole a
      → NotesAreOnAccepted (after_events read a events) → IsWorkerOf base a worker
      → Goes read worker (works_of events) after → MayAllHappen read a events → AllTakeNext read a events
      → IsWorkerOf base (after_events read a events) after
  along a worker after events h noted is goes may next =
      let has : HasTaken a worker.took.taken = record { left = is.left; first = is.first } in
      let took = taken_along read a worker.took.taken events has next in
      let calls = calls_of (works_of events) in
      let more = booked_by read a.session a.waiting calls in
      let asked = withdrawn_by read a.session (works_of events) in
      let asks = asks_along read a events may next h in
      let gone = gone_along a (after_events read a events) is.asked asked h is.gone asks in
      record {
        session = goes.session ∙ (ap (λ s. after_calls read s calls) is.session ∙ sym (session_along read a events));
        left = took.left ∙ ap length (sym goes.taken);
        first = subst (λ l. IsPrefix l (placed_from 1 (after_events read a events).released)) (sym goes.taken) took.first;
        venue = ap (λ (l : Lasting). l.venue) goes.seat ∙ is.venue;
        booked = goes.booked a.waiting
            ∙ (ap (λ s. worker.seat.booked ++ booked_by read s a.waiting calls) is.session
            ∙ (ap (λ l. l ++ more) is.booked
            ∙ (append_assoc base.booked a.given more ∙ ap (λ l. base.booked ++ l) (sym (given_along read a events)))));
        asked = is.asked ++ asked;
        asks = goes.asked
            ∙ (ap (λ s. worker.seat.asked ++ withdrawn_by read s (works_of events)) is.session
            ∙ (ap (λ l. l ++ asked) is.asks ∙ append_assoc base.asked is.asked asked));
        gone = gone;
        once = once_along a (after_events read a events) is.asked asked h is.gone asks is.once;
        spared = λ own.
            spared_by (after_events read a events) (is.asked ++ asked) (whole_after read a events may next h) own noted
            gone.each;
      }

-- legs with their ordinals
placed-take : (from n : ℕ) (legs : List Leg) → take n (placed_from from legs) ≡ placed_from from (take n legs)
placed-take from zero legs = refl
placed-take from (suc n) [] = refl
placed-take from (suc n) (leg ∷ legs) = ap (λ l. record { ordinal = from; leg = leg } ∷ l) (placed-take (suc from) n legs)

prefix_of_same : (taken : List PlacedLeg) (xs ys : List Leg) → take (length taken) xs ≡ take (length taken) ys
    → IsPrefix taken (placed_from 1 xs) → IsPrefix taken (placed_from 1 ys)
prefix_of_same taken xs ys same is =
    let n = length taken in
    let mine : take n (placed_from 1 xs) ≡ taken = ap (take n) (sym is.1) ∙ take-append_seam taken is.0 in
    let first : taken ≡ take n (placed_from 1 ys) =
    sym mine ∙ (placed-take 1 n xs ∙ (ap (placed_from 1) same ∙ sym (placed-take 1 n ys))) in (
      drop n (placed_from 1 ys),
      ap (λ l. l ++ drop n (placed_from 1 ys)) first ∙ take-append-drop n (placed_from 1 ys),
    )

-- so the same legs were asked for, and have ids of their own
module _ (d c : Line) (log : c.session.log ≡ d.session.log) (left : c.left ≡ d.left) where
  gone_same : (asked : List LegIdParts) (legs : (ordinal : ℕ) → ordinal ≤ d.left
      → numbered ordinal c.released ≡ numbered ordinal d.released)
      → ((ordinal : ℕ) → IsWithdrawnLeg c ordinal → IsWithdrawnLeg d ordinal)
      → AreGone d asked → AreGone c asked
  gone_same asked legs back gone = record {
    each = λ id there.
        (let is = gone.each id there in
        record {
          ordinal = is.ordinal;
          leg = is.leg;
          whole = legs is.ordinal is.withdrawn.left ∙ is.whole;
          same = is.same;
          withdrawn = same_gone d c log left is.ordinal is.withdrawn;
        });
    all = λ id is.
        (let was = back is.ordinal is.withdrawn in
        gone.all id (record {
          ordinal = is.ordinal;
          leg = is.leg;
          whole = sym (legs is.ordinal was.left) ∙ is.whole;
          same = is.same;
          withdrawn = was;
        }));
  }

  own_same : (legs : (ordinal : ℕ) → ordinal ≤ d.left → numbered ordinal c.released ≡ numbered ordinal d.released)
      → HaveOwnIds c → HaveOwnIds d
  own_same legs own ordinal other leg more low lower here there same =
      own ordinal other leg more (omega arith) (omega arith) (legs ordinal low ∙ here) (legs other lower ∙ there) same

-- the first legs are the same where each of them is
take_same : (n : ℕ) (xs ys : List Leg) → ((k : ℕ) → k < n → slice_get xs k ≡ slice_get ys k) → n ≤ length xs
    → n ≤ length ys → take n xs ≡ take n ys
take_same zero xs ys same low within = refl
take_same (suc n) [] ys same low within = absurd (omega arith)
take_same (suc n) (x ∷ xs) [] same low within = absurd (omega arith)
take_same (suc n) (x ∷ xs) (y ∷ ys) same low within =
    let one : x ≡ y = same_Some x y (same 0 (omega arith)) in
    let rest = take_same n xs ys (λ k below. same (suc k) (omega arith)) (omega arith) (omega arith) in
    cc

-- of the legs released to a line and to a later one, and of those kept of the later one's, each of the first is the
-- same
first_same : (d k : Line) (kept forgotten : List Leg) → Whole d → IsPast d k → k.released ≡ kept ++ forgotten
    → d.left ≤ length kept → (ordinal : ℕ) → ordinal ≤ d.left
    → numbered ordinal kept ≡ numbered ordinal d.released
first_same d k kept forgotten h past released whole zero low = refl
first_same d k kept forgotten h past released whole (suc n) low =
    let bound = h.0.copies.left_released in
    let there = numbered_there (suc n) d.released (omega arith) (omega arith) in
    kept_leg k.released kept forgotten released (suc n) there.0 (omega arith) (past.released (suc n) there.0 there.1)
    ∙ sym there.1

module _ (read : Decoding) (config : ConfigParts) (small : config.max_number ≤ 999999999) (base : Seat) where
  restart_stands : (life next : WorkerLife) → IsWorkerLife read life → WorkerRestarts read life next
      → Whole (durable_at read life) → IsWorkerOf base (durable_at read life) life.kept
      → IsWorkerOf base next.start next.worker
  restart_stands life next is restart h kept =
      let d = durable_at read life in
      let k = killed_at read life in
      let c = restarted d k restart.kept d.left in
      let past = leads_past d k (events_lead read d life.lost is.run.happens_then is.takes_then) in
      let legs = first_same d k restart.kept restart.forgotten h past restart.released restart.whole in
      let bound = h.0.copies.left_released in
      let enough = restart.whole in
      let count = kept.left in
      let firsts = take_same (length life.kept.took.taken) d.released restart.kept
      (λ i below. sym (legs (suc i) (omega arith))) (omega arith) (omega arith) in
      subst (λ w. IsWorkerOf base w next.worker) (sym restart.start)
      (record {
        session = restart.session ∙ ap broken kept.session;
        left = kept.left ∙ ap length (sym restart.took);
        first = subst (λ l. IsPrefix l (placed_from 1 restart.kept)) (sym restart.took)
            (prefix_of_same life.kept.took.taken d.released restart.kept firsts kept.first);
        venue = restart.venue ∙ kept.venue;
        booked = restart.booked ∙ kept.booked;
        asked = kept.asked;
        asks = restart.asked ∙ kept.asks;
        gone = gone_same d c (broken_log d.session) refl kept.asked legs
            (same_gone c d (sym (broken_log d.session)) refl) kept.gone;
        once = λ own. kept.once (own_same d c (broken_log d.session) refl legs own);
        spared = λ own. kept.spared (own_same d c (broken_log d.session) refl legs own);
      })

  noted : (w : Line) → IsReached config w → NotesAreOnAccepted w
  noted w r = notes_on w (reached_noted config small w r)

  life_stands : (life : WorkerLife) → IsWorkerLife read life → IsReached config life.start
      → IsWorkerOf base life.start life.worker → StandsThrough read base life
  life_stands life is r start =
      let d = durable_at read life in
      let durable = durable_reached config read life is r in
      let killed = events_reached config read d life.lost is.run.happens_then is.takes_then durable in
      let stands = along read base life.start life.worker life.kept life.durable (reached_whole config small life.start r)
      (noted d durable) start is.run.goes is.run.happens is.takes in
      record {
        start = start;
        durable = stands;
        killed = along read base d life.kept life.ended life.lost (reached_whole config small d durable)
            (noted (killed_at read life) killed) stands is.run.more is.run.happens_then is.takes_then;
      }

  lives_stand : (life : WorkerLife) (lives : List WorkerLife) → AreWorkerLives read life lives
      → IsReached config life.start → IsWorkerOf base life.start life.worker
      → AllStandThrough read base life lives
  lives_stand life [] is r start = life_stands life is r start
  lives_stand life (next ∷ lives) is r start =
      let durable = durable_reached config read life is.0 r in
      let stands = life_stands life is.0 r start in (
        stands,
        lives_stand next lives is.2 (restart_reached config read life next is.0 is.1 durable)
            (restart_stands life next is.0 is.1 (reached_whole config small (durable_at read life) durable)
            stands.durable),
      )

  -- the last life
  pub last_stands : (life : WorkerLife) (lives : List WorkerLife) → AllStandThrough read base life lives
      → StandsThrough read base (last_life life lives)
  last_stands life [] stand = stand
  last_stands life (next ∷ lives) stand = last_stands next lives stand.1

-- a new worker
new_stands : (config : ConfigParts) (legs : List Leg) (life : WorkerLife) → IsNewWorker config legs life
    → IsWorkerOf life.worker.seat life.start life.worker
new_stands config legs life new =
    subst (λ w. IsWorkerOf life.worker.seat w life.worker) (sym new.start)
    (record {
      session = new.session;
      left = ap length (sym new.empty);
      first = (placed_from 1 legs, ap (λ l. l ++ placed_from 1 legs) new.empty);
      venue = refl;
      booked = sym (append-nil life.worker.seat.booked);
      asked = [];
      asks = sym (append-nil life.worker.seat.asked);
      gone = record {
        each = λ id there. absurd (let h = there.1 in omega arith);
        all = λ id is.
            absurd (let from = is.withdrawn.from in let left = is.withdrawn.left in omega arith);
      };
      once = λ own. distinct-none;
      spared = λ own id note there. absurd (none_in id there);
    })

pub the_worker_restart_theorem : TheWorkerRestartTheorem
the_worker_restart_theorem read config legs first lives small new is =
    let start = subst (IsReached config) (sym new.start) (released_reached config legs) in
    record {
      holds = All-weaker (IsReached config) LineHolds (reached_holds config small) (lives_moments read first lives)
          (lives_reached config read first lives is start);
      noted = All-weaker (IsReached config) NotesAreOnAccepted (λ w r. notes_on w (reached_noted config small w r))
          (lives_moments read first lives) (lives_reached config read first lives is start);
      accepted = worker_accepted read config small first lives is start;
      never_accepted = worker_never_accepted read config small first lives is start;
      withdrawn = worker_withdrawn read config small first lives is start;
      given = worker_given read config small first lives is start;
      stand = lives_stand read config small first.worker.seat first lives is start (new_stands config legs first new);
    }

-- Where each life took the first of the legs that are on its line from its start, each leg that it took was the next one.
use Rattle.std.proofs.Common.{◌≡◌, List, [], ◌∷◌, ◌++◌, length, refl, sym, ap, subst, ◌∙◌, append_assoc}
use mathlib.Core.List.{IsPrefix}
use Rattle.leg.specs.declared.leg.Leg.{Leg}
use Rattle.leg.specs.declared.placed_leg.PlacedLeg.{PlacedLeg}
use Rattle.dialect.specs.Wording.{Decoding}
use Rattle.release_lock.specs.Queues.{placed_from}
use Rattle.venue_line.specs.Line.{Line}
use Rattle.session_worker.specs.Events.{taken_in, taken_of}
use Rattle.worker_line.specs.Happening.{VenueEvent, works_of, after_event, after_events, AllTakeNext}
use Rattle.worker_line.specs.Happening.VenueEvent.{Works, Exchanges, Releases}
use Rattle.worker_line.proofs.TakenAlong.{taken_along, each_is_next}
use Rattle.worker_restart.specs.WorkerLives.{WorkerLife, IsWorkerLife, WorkerRestarts, AreInTurn, AreWorkerLives, last_life, AllButLast, IsRunOn}

-- the legs that it took are the first of these
abbrev pub TookThese : List Leg → WorkerLife → Type 0
TookThese legs life = IsPrefix life.ended.took.taken (placed_from 1 legs)

-- what begins with a list and more begins with the list
prefix_before : (xs more ys : List PlacedLeg) → IsPrefix (xs ++ more) ys → IsPrefix xs ys
prefix_before xs more ys is = (more ++ is.0, sym (append_assoc xs more is.0) ∙ is.1)

-- the legs taken in some events and in more
taken_both : (xs ys : List VenueEvent)
    → taken_of (works_of (xs ++ ys)) ≡ taken_of (works_of xs) ++ taken_of (works_of ys)
taken_both [] ys = refl
taken_both (Works event ∷ xs) ys =
    ap (λ l. taken_in event ++ l) (taken_both xs ys)
    ∙ sym (append_assoc (taken_in event) (taken_of (works_of xs)) (taken_of (works_of ys)))
taken_both (Exchanges coming t written ∷ xs) ys = taken_both xs ys
taken_both (Releases legs ∷ xs) ys = taken_both xs ys

module _ (read : Decoding) where
  split_next : (a : Line) (xs ys : List VenueEvent) → AllTakeNext read a (xs ++ ys)
      → AllTakeNext read a xs × AllTakeNext read (after_events read a xs) ys
  split_next a [] ys next = (tt, next)
  split_next a (event ∷ xs) ys next =
      let more = split_next (after_event read a event) xs ys next.1 in
      ((next.0, more.0), more.1)

  module _ (legs : List Leg) where
    -- a life
    took_all : (life : WorkerLife) → IsRunOn read legs life
        → life.ended.took.taken ≡ life.worker.took.taken ++ taken_of (works_of (life.durable ++ life.lost))
    took_all life is =
        let first = taken_of (works_of life.durable) in
        let more = taken_of (works_of life.lost) in
        is.run.more.taken
        ∙ (ap (λ l. l ++ more) is.run.goes.taken
        ∙ (append_assoc life.worker.took.taken first more
        ∙ ap (λ l. life.worker.took.taken ++ l) (sym (taken_both life.durable life.lost))))

    a_life : (life : WorkerLife) → IsRunOn read legs life → TookThese legs life
        → life.start.left ≡ length life.worker.took.taken → IsWorkerLife read life
    a_life life is first left =
        let before = life.worker.took.taken in
        let next = split_next life.start life.durable life.lost
        (each_is_next read life.start before (life.durable ++ life.lost) left
        (subst (λ l. IsPrefix (before ++ taken_of (works_of (life.durable ++ life.lost))) (placed_from 1 l))
        (sym is.released)
        (subst (λ l. IsPrefix l (placed_from 1 legs)) (took_all life is) first))) in
        record { run = is.run; takes = next.0; takes_then = next.1 }

    -- so many legs have left at the start of the next one as its worker has taken
    left_next : (life next : WorkerLife) → IsRunOn read legs life → TookThese legs life
        → life.start.left ≡ length life.worker.took.taken → WorkerRestarts read life next
        → next.start.left ≡ length next.worker.took.taken
    left_next life next is first left restart =
        let before = life.worker.took.taken in
        let all = taken_of (works_of (life.durable ++ life.lost)) in
        let prefix = prefix_before before all (placed_from 1 legs)
        (subst (λ l. IsPrefix l (placed_from 1 legs)) (took_all life is) first) in
        let has = taken_along read life.start before life.durable
        (record { left = left; first = subst (λ l. IsPrefix before (placed_from 1 l)) (sym is.released) prefix })
        (a_life life is first left).takes in
        ap (λ (w : Line). w.left) restart.start
        ∙ (has.left ∙ (ap length (sym is.run.goes.taken) ∙ ap length (sym restart.took)))

    pub lives_of : (life : WorkerLife) (lives : List WorkerLife) → AreInTurn read (IsRunOn read legs) life lives
        → AllButLast (TookThese legs) life lives → TookThese legs (last_life life lives)
        → life.start.left ≡ length life.worker.took.taken → AreWorkerLives read life lives
    lives_of life [] is firsts last left = a_life life is last left
    lives_of life (next ∷ lives) is firsts last left = (
      a_life life is.0 firsts.0 left,
      is.1,
      lives_of next lives is.2 firsts.1 last (left_next life next is.0 firsts.0 left is.1),
    )

    pub last_on : (life : WorkerLife) (lives : List WorkerLife) → AreInTurn read (IsRunOn read legs) life lives
        → IsRunOn read legs (last_life life lives)
    last_on life [] is = is
    last_on life (next ∷ lives) is = last_on next lives is.2

-- A day of several lives by its bytes: the last life begins where those before it lead, and all of it may happen.
use Rattle.std.proofs.Common.{◌≡◌, ℕ, false, List, [], ◌∷◌, ◌++◌, Some, refl, sym, ap, subst, ◌∙◌}
use Rattle.std.proofs.lemmas.List.{append-nil}
use mathlib.Core.List.{IsPrefix}
use Rattle.fix_tags.specs.Config.{ConfigParts}
use Rattle.leg.specs.declared.leg.Leg.{Leg}
use Rattle.dialect.specs.Wording.{Decoding, Wording, IsWording}
use Rattle.session_core.specs.Session.{SessionParts, new_session, is_connected}
use Rattle.session_core.specs.Sound.{IsSound}
use Rattle.session_core.specs.Trial.{after_calls}
use Rattle.session_core.proofs.AnyCalls.{calls_sound}
use Rattle.session_core.proofs.Promised.{broken_sound}
use Rattle.session_core.proofs.Sound.{sound-new}
use Rattle.sweep_release.specs.Released.{released}
use Rattle.release_lock.specs.Queues.{placed_from}
use Rattle.venue_line.specs.Line.{Line}
use Rattle.session_worker.specs.Events.{WorkerEvent, WorkerParts, calls_of, AreAllowed, Goes}
use Rattle.session_worker.specs.Events.WorkerEvent.{Calls}
use Rattle.session_core.specs.declared.session_call.SessionCall.TheVariants as call
use Rattle.worker_line.specs.Happening.{VenueEvent, works_of, MayAllHappen}
use Rattle.worker_line.specs.WorkerTheorem.{released_line}
use Rattle.worker_line.proofs.Coming.{happens_from, run_speaks}
use Rattle.worker_line.proofs.Moments.{run_goes}
use Rattle.worker_restart.specs.WorkerLives.{WorkerLife, IsRun, AreInTurn, last_life, AllButLast, IsRunOn}
use Rattle.worker_restart.specs.LivesByBytes.{IsMadeAgain, ArePastLives, line_behind, line_over, found_behind, found_over, whole_life, first_of, others_of, TheDayByBytesOverLives}
use Rattle.worker_restart.proofs.MadeAgain.{Begins, begins_behind, made_of, allowed_behind, allowed_gone, restarts}
use Rattle.worker_restart.proofs.DayOverLives.{day_over_lives}

-- nothing was done
goes_none : (read : Decoding) (worker : WorkerParts) → Goes read worker [] worker
goes_none read worker = record {
  session = refl;
  taken = sym (append-nil worker.took.taken);
  allowed = tt;
  venue = refl;
  seat = refl;
  booked = λ waiting. sym (append-nil worker.seat.booked);
  asked = sym (append-nil worker.seat.asked);
}

whole_run : (read : Decoding) (a : Line) (worker after : WorkerParts) (events : List VenueEvent)
    → Goes read worker (works_of events) after → MayAllHappen read a events
    → IsRun read (whole_life a worker events after)
whole_run read a worker after events goes may = record {
  goes = goes;
  more = goes_none read after;
  happens = may;
  happens_then = tt;
  wire = tt;
}

-- the last of them
last_of : (life last : WorkerLife) (lives : List WorkerLife) → last_life life (lives ++ last ∷ []) ≡ last
last_of life last [] = refl
last_of life last (next ∷ lives) = last_of next last lives

last_is : (lives : List WorkerLife) (last : WorkerLife) → last_life (first_of lives last) (others_of lives last) ≡ last
last_is [] last = refl
last_is (life ∷ lives) last = last_of life last lives

module _ (read : Decoding) (config : ConfigParts) (venue : ℕ) (legs : List Leg) where
  -- where the last life begins
  begins_over : (found : List WorkerEvent) (a : Line) (lives : List WorkerLife)
      → ArePastLives read config venue legs found a lives → Begins read config legs found a
      → Begins read config legs (found_over found lives) (line_over read legs a lives)
  begins_over found a [] past begins = begins
  begins_over found a (life ∷ lives) past begins =
      begins_over (found_behind found life) (line_behind read legs life) lives past.3
      (begins_behind read config legs found a life begins past.0 past.2)

  -- what is found of lives was allowed
  allowed_over : (found : List WorkerEvent) (a : Line) (lives : List WorkerLife)
      → ArePastLives read config venue legs found a lives → AreAllowed read (new_session config) found
      → AreAllowed read (new_session config) (found_over found lives)
  allowed_over found a [] past all = all
  allowed_over found a (life ∷ lives) past all =
      allowed_over (found_behind found life) (line_behind read legs life) lives past.3
      (allowed_behind read config venue found life past.1 past.2.run.goes)

  pub found_allowed : (a : Line) (lives : List WorkerLife) → ArePastLives read config venue legs [] a lives
      → AreAllowed read (new_session config) (found_over [] lives ++ Calls call.Broken ∷ [])
  found_allowed a lives past = allowed_gone read config (found_over [] lives) (allowed_over [] a lives past tt)

  module _ (last : WorkerLife) where
    -- how the first of the lives begins
    first_begins : (found : List WorkerEvent) (a : Line) (lives : List WorkerLife)
        → ArePastLives read config venue legs found a lives → last.start ≡ line_over read legs a lives
        → IsMadeAgain read config venue (found_over found lives) last.worker
        → ((first_of lives last).start ≡ a) × IsMadeAgain read config venue found (first_of lives last).worker
    first_begins found a [] past start made = (start, made)
    first_begins found a (life ∷ lives) past start made = (past.0, past.1)

    in_turn : (found : List WorkerEvent) (a : Line) (lives : List WorkerLife)
        → ArePastLives read config venue legs found a lives → Begins read config legs found a
        → last.start ≡ line_over read legs a lives
        → IsMadeAgain read config venue (found_over found lives) last.worker → IsRun read last
        → AreInTurn read (IsRunOn read legs) (first_of lives last) (others_of lives last)
    in_turn found a [] past begins start made run =
        record { run = run; released = ap (λ (w : Line). w.released) start ∙ begins.released }
    in_turn found a (life ∷ []) past begins start made run = (
      record { run = past.2.run; released = ap (λ (w : Line). w.released) past.0 ∙ begins.released },
      restarts read config legs found a life begins past.0 past.2 venue
          (made_of read config venue found life.worker past.1) last start
          (made_of read config venue (found_behind found life) last.worker made),
      record { run = run; released = ap (λ (w : Line). w.released) start },
    )
    in_turn found a (life ∷ next ∷ lives) past begins start made run = (
      record { run = past.2.run; released = ap (λ (w : Line). w.released) past.0 ∙ begins.released },
      restarts read config legs found a life begins past.0 past.2 venue
          (made_of read config venue found life.worker past.1) next past.3.0
          (made_of read config venue (found_behind found life) next.worker past.3.1),
      in_turn (found_behind found life) (line_behind read legs life) (next ∷ lives) past.3
          (begins_behind read config legs found a life begins past.0 past.2) start made run,
    )

    -- each of those before took the first legs
    all_first : (found : List WorkerEvent) (a : Line) (lives : List WorkerLife)
        → ArePastLives read config venue legs found a lives
        → AllButLast (λ life. IsPrefix life.ended.took.taken (placed_from 1 legs)) (first_of lives last)
        (others_of lives last)
    all_first found a [] past = tt
    all_first found a (life ∷ []) past = (past.2.first, tt)
    all_first found a (life ∷ next ∷ lives) past =
        (past.2.first, all_first (found_behind found life) (line_behind read legs life) (next ∷ lives) past.3)

new_begins : (read : Decoding) (config : ConfigParts) (legs : List Leg)
    → Begins read config legs [] (released_line config legs)
new_begins read config legs = record { session = refl; off = refl; heard = tt; left = refl; released = refl }

pub the_day_by_bytes_over_lives : (w : Wording) → IsWording w → TheDayByBytesOverLives w
the_day_by_bytes_over_lives w laws callers queues seats report day venue config lives worker left runs events took sits
    good past made works range =
    let legs = released venue day.desk.desk.sweeps in
    let new = released_line config legs in
    let a = line_over w.decoding legs new lives in
    let begins = begins_over w.decoding config venue legs [] new lives past (new_begins w.decoding config legs) in
    let last = whole_life a worker events left.parts in
    let is_made = made_of w.decoding config venue (found_over [] lives) worker made in
    let same : a.session ≡ worker.session = begins.session ∙ sym is_made.session in
    let off = subst (λ (s : SessionParts). is_connected s.phase ≡ false) same begins.off in
    let sound : IsSound worker.session =
    subst IsSound (sym is_made.session)
    (broken_sound (after_calls w.decoding (new_session config) (calls_of (found_over [] lives)))
    (calls_sound w.decoding (new_session config) (calls_of (found_over [] lives)) (sound-new config good) begins.heard)) in
    let speak = run_speaks w worker left runs events works off in
    let first = first_of lives last in
    let others = others_of lives last in
    let is = last_is lives last in
    let start = first_begins w.decoding config venue legs last [] new lives past refl made in
    let began = made_of w.decoding config venue [] first.worker start.1 in
    record {
      speak = speak;
      safe = λ come keeps.
          (let may = happens_from w laws a worker.session events worker.wire left.parts.wire speak same sound off range come
          keeps in
          let goes = subst (λ l. Goes w.decoding worker l left.parts) (sym works) (run_goes w worker left runs) in
          let run = whole_run w.decoding a worker left.parts events goes may in
          day_over_lives w.decoding config first others callers queues seats report day venue
          (took ∙ ap (λ (life : WorkerLife). Some life.ended.took) (sym is))
          (sits ∙ ap (λ (life : WorkerLife). Some life.ended.seat) (sym is)) good.max_number
          (record { start = start.0; session = began.session; empty = began.taken }) began.place began.booked began.asked
          (in_turn w.decoding config venue legs last [] new lives past (new_begins w.decoding config legs) refl made run)
          (all_first w.decoding config venue legs last [] new lives past));
    }

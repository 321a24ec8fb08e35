-- What was accepted, withdrawn or given at a moment of a worker's lives stays so at every later one.
use Rattle.std.proofs.Common.{◌≡◌, ◌≤◌, ℕ, List, [], ◌∷◌, ◌++◌, refl, sym, ap, subst, ◌∙◌, inl, inr, arith}
use Rattle.std.specs.List.{AllPairs}
use Rattle.fix_tags.specs.Config.{ConfigParts}
use Rattle.dialect.specs.Wording.{Decoding}
use Rattle.resend.specs.Log.{state_of}
use Rattle.venue_line.specs.Line.{Line}
use Rattle.venue_line.specs.Leading.{last_line, Leads}
use Rattle.venue_line.specs.LineTheorem.{IsWithdrawnLeg}
use Rattle.venue_line.proofs.GivenSteps.{Whole}
use Rattle.venue_line.proofs.Kept.{numbered_there}
use Rattle.venue_line.proofs.Leading.{leads_safely, leads_past}
use Rattle.line_restart.specs.Lives.{restarted}
use Rattle.line_restart.specs.RestartTheorem.{IsReached}
use Rattle.line_restart.specs.OverRestarts.{StaysAccepted, NeverAccepted, StaysWithdrawn}
use Rattle.line_restart.specs.Reports.{GivesTheSame}
use Rattle.line_restart.proofs.Chained.{HandsOn, AreChained, chain_append, chain_pairs, over_leads, pairs_reached}
use Rattle.line_restart.proofs.KnownLegs.{broken_log}
use Rattle.line_restart.proofs.Missed.{StaysOut, out_hands_on, gone_hands_on, out_over, never_accepted}
use Rattle.line_restart.proofs.Reached.{reached_whole, reached_holds}
use Rattle.line_restart.proofs.Reports.{SameNotes, same_hands_on, same_over, gives_same}
use Rattle.line_restart.proofs.Staying.{Stays, stays_hands_on, stays_accepted, restart_accepted}
use Rattle.line_restart.proofs.WrittenSince.{writes_leads, written_leads}
use Rattle.worker_line.specs.Happening.{VenueEvent, after_event, after_events, moments_of, MayAllHappen, AllTakeNext}
use Rattle.worker_line.proofs.OneEvent.{event_leads}
use Rattle.worker_line.proofs.AskedAlong.{events_lead, asks_along}
use Rattle.worker_line.proofs.AskedLegs.{Asks}
use Rattle.worker_restart.specs.WorkerLives.{WorkerLife, durable_at, killed_at, IsWorkerLife, WorkerRestarts, AreWorkerLives, life_moments, lives_moments, AllButLast}
use Rattle.worker_restart.specs.WorkerRestartTheorem.{KeepsDrops, KeepsWithdrawn}
use Rattle.worker_restart.proofs.WorkerReached.{durable_reached, lives_reached, restart_reached}

module _ (read : Decoding) where
  pub whole_after : (a : Line) (events : List VenueEvent) → MayAllHappen read a events → AllTakeNext read a events
      → Whole a → Whole (after_events read a events)
  whole_after a events may next h =
      (leads_safely a (after_events read a events) (events_lead read a events may next) h).0

  last_moment : (p a : Line) (events : List VenueEvent)
      → last_line p (moments_of read a events) ≡ after_events read a events
  last_moment p a [] = refl
  last_moment p a (event ∷ events) = last_moment a (after_event read a event) events

  last_of_life : (p : Line) (life : WorkerLife) → last_line p (life_moments read life) ≡ killed_at read life
  last_of_life p life = go (moments_of read life.start life.durable) p
    where
      go : (xs : List Line) (q : Line)
          → last_line q (xs ++ moments_of read (durable_at read life) life.lost) ≡ killed_at read life
      go [] q = last_moment q (durable_at read life) life.lost
      go (x ∷ xs) q = go xs x

  -- what steps hand on, and a restart, is handed on over all lives
  module _ (R : Line → Line → Type 0) (hands_on : HandsOn R) where
    moments_chained : (p a : Line) (events : List VenueEvent) → R p a → MayAllHappen read a events
        → AllTakeNext read a events → Whole a → AreChained R p (moments_of read a events)
    moments_chained p a [] first may next h = (first, tt)
    moments_chained p a (event ∷ events) first may next h =
        let b = after_event read a event in
        let leads = event_leads read a event may.0 next.0 in
        (first, moments_chained a b events (over_leads R hands_on a b leads h) may.1 next.1 (leads_safely a b leads h).0)

    life_chained : (p : Line) (life : WorkerLife) → R p life.start → IsWorkerLife read life → Whole life.start
        → AreChained R p (life_moments read life)
    life_chained p life first is h =
        let d = durable_at read life in
        let durable = whole_after life.start life.durable is.run.happens is.takes h in
        chain_append R p (moments_of read life.start life.durable) (moments_of read d life.lost)
        (moments_chained p life.start life.durable first is.run.happens is.takes h)
        (subst (λ w. AreChained R w (moments_of read d life.lost)) (sym (last_moment p life.start life.durable))
        (moments_chained d d life.lost (hands_on.same d) is.run.happens_then is.takes_then durable))

    module _ (config : ConfigParts) (small : config.max_number ≤ 999999999) (Keeps : WorkerLife → Type 0)
        (over : (life next : WorkerLife) → IsWorkerLife read life → WorkerRestarts read life next
        → Whole (durable_at read life) → Whole (killed_at read life) → Whole next.start → Keeps life
        → R (killed_at read life) next.start) where
      lives_chained : (p : Line) (life : WorkerLife) (lives : List WorkerLife) → R p life.start
          → AreWorkerLives read life lives → AllButLast Keeps life lives → IsReached config life.start
          → AreChained R p (lives_moments read life lives)
      lives_chained p life [] first is keeps r =
          life_chained p life first is (reached_whole config small life.start r)
      lives_chained p life (next ∷ lives) first is keeps r =
          let d = durable_at read life in
          let whole = reached_whole config small life.start r in
          let durable = durable_reached config read life is.0 r in
          let hd = reached_whole config small d durable in
          let hk = whole_after d life.lost is.0.run.happens_then is.0.takes_then hd in
          let again = restart_reached config read life next is.0 is.1 durable in
          let next_so = over life next is.0 is.1 hd hk (reached_whole config small next.start again) keeps.0 in
          chain_append R p (life_moments read life) (lives_moments read next lives) (life_chained p life first is.0 whole)
          (subst (λ w. AreChained R w (lives_moments read next lives)) (sym (last_of_life p life))
          (lives_chained (killed_at read life) next lives next_so is.2 keeps.1 again))

      pub moments_pairs : (life : WorkerLife) (lives : List WorkerLife) → AreWorkerLives read life lives
          → AllButLast Keeps life lives → IsReached config life.start
          → AllPairs R (lives_moments read life lives)
      moments_pairs life lives is keeps r =
          chain_pairs R hands_on life.start (lives_moments read life lives)
          (lives_chained life.start life lives (hands_on.same life.start) is keeps r)

-- the same legs are withdrawn where the logs, and the legs that have left, are the same
module _ (d c : Line) (log : c.session.log ≡ d.session.log) (left : c.left ≡ d.left) where
  pub same_gone : (ordinal : ℕ) → IsWithdrawnLeg d ordinal → IsWithdrawnLeg c ordinal
  same_gone ordinal is = record {
    from = is.from;
    left = (let h = is.left in omega arith);
    gone = elim is.gone [
      | inl none ↦ inl (ap (state_of ordinal) log ∙ none)
      | inr gone ↦ inr (ap (state_of ordinal) log ∙ gone)
    ];
  }

-- over a restart
module _ (read : Decoding) (life next : WorkerLife) (is : IsWorkerLife read life) (restart : WorkerRestarts read life next)
    (durable : Whole (durable_at read life)) (killed : Whole (killed_at read life)) (whole : Whole next.start) where
  abbrev d : Line
  d = durable_at read life

  abbrev k : Line
  k = killed_at read life

  abbrev c : Line
  c = restarted d k restart.kept d.left

  leads : Leads d k
  leads = events_lead read d life.lost is.run.happens_then is.takes_then

  over_stays : Unit {0} → Stays k next.start
  over_stays keeps =
      subst (Stays k) (sym restart.start)
      (restart_accepted d k restart.kept restart.forgotten d.left restart.released restart.whole (leads_past d k leads).later
      durable killed (subst Whole restart.start whole))

  over_out : KeepsDrops read life → StaysOut k next.start
  over_out keeps =
      subst (StaysOut k) (sym restart.start)
      (out_over d k restart.kept restart.forgotten d.left restart.released restart.whole (leads_past d k leads)
      (writes_leads d k leads) (written_leads d k leads) durable killed (subst Whole restart.start whole) keeps)

  -- what is withdrawn when the worker is killed was so when the journal ended
  over_gone : KeepsWithdrawn read life → StaysWithdrawn k next.start
  over_gone none ordinal gone =
      let asks = subst (Asks d k) none (asks_along read d life.lost is.run.happens_then is.takes_then durable) in
      let left = gone.left in
      let bound = killed.0.copies.left_released in
      let there = numbered_there ordinal k.released gone.from (omega arith) in
      let was : IsWithdrawnLeg d ordinal =
      elim (asks.all ordinal there.0 there.1 gone) [
        | inl before ↦ before
        | inr now ↦ absurd (let low = now.1 in omega arith)
      ] in
      subst (λ v. IsWithdrawnLeg v ordinal) (sym restart.start)
      (same_gone d c (broken_log d.session) refl ordinal was)

  over_same : Unit {0} → SameNotes k next.start
  over_same keeps =
      subst (SameNotes k) (sym restart.start)
      (same_over d k restart.kept d.left (leads_past d k leads).later (subst Whole restart.start whole))

none_needed : (life : WorkerLife) (lives : List WorkerLife) → AllButLast (λ life. Unit {0}) life lives
none_needed life [] = tt
none_needed life (next ∷ lives) = (tt, none_needed next lives)

module _ (read : Decoding) (config : ConfigParts) (small : config.max_number ≤ 999999999) (first : WorkerLife)
    (lives : List WorkerLife) (is : AreWorkerLives read first lives) (start : IsReached config first.start) where
  abbrev moments : List Line
  moments = lives_moments read first lives

  pub worker_accepted : AllPairs StaysAccepted moments
  worker_accepted =
      pairs_reached config Stays StaysAccepted
      (λ a b before after s.
      stays_accepted a b (reached_whole config small a before) (reached_whole config small b after) s) moments
      (lives_reached config read first lives is start)
      (moments_pairs read Stays stays_hands_on config small (λ life. Unit {0}) (over_stays read) first lives is
      (none_needed first lives) start)

  pub worker_never_accepted : AllButLast (KeepsDrops read) first lives → AllPairs NeverAccepted moments
  worker_never_accepted keeps =
      pairs_reached config StaysOut NeverAccepted
      (λ a b before after out. never_accepted a b (reached_holds config small b after) out) moments
      (lives_reached config read first lives is start)
      (moments_pairs read StaysOut out_hands_on config small (KeepsDrops read) (over_out read) first lives is keeps start)

  pub worker_withdrawn : AllButLast (KeepsWithdrawn read) first lives → AllPairs StaysWithdrawn moments
  worker_withdrawn keeps =
      moments_pairs read StaysWithdrawn gone_hands_on config small (KeepsWithdrawn read) (over_gone read) first lives is
      keeps start

  pub worker_given : AllPairs GivesTheSame moments
  worker_given =
      pairs_reached config SameNotes GivesTheSame
      (λ a b before after s.
      gives_same a b (reached_holds config small a before) (reached_holds config small b after) s) moments
      (lives_reached config read first lives is start)
      (moments_pairs read SameNotes same_hands_on config small (λ life. Unit {0}) (over_same read) first lives is
      (none_needed first lives) start)

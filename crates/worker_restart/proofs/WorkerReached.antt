-- At each moment of a worker's lives its line is one that ordinary steps lead to.
use Rattle.std.proofs.Common.{◌≡◌, ℕ, List, [], ◌∷◌, length, refl, sym, subst, arith}
use Rattle.std.specs.List.{All}
use Rattle.std.proofs.lemmas.List.Elements.{All-cons, All-nil, All-append}
use Rattle.fix_tags.specs.Config.{ConfigParts}
use Rattle.leg.specs.declared.leg.Leg.{Leg}
use Rattle.dialect.specs.Wording.{Decoding}
use Rattle.session_core.specs.declared.session_call.SessionCall.{SessionCall}
use Rattle.session_core.specs.declared.session_call.SessionCall.TheVariants as call
use Rattle.venue_line.specs.Line.{Line, new_line}
use Rattle.venue_line.specs.Line as line
use Rattle.venue_line.specs.Leading.{Leads}
use Rattle.venue_line.proofs.Leading.{leads-trans}
use Rattle.session_worker.specs.Events.{WorkerEvent}
use Rattle.session_worker.specs.Events.WorkerEvent.{Calls, Drops, Fails}
use Rattle.line_restart.specs.RestartTheorem.{IsReached}
use Rattle.line_restart.proofs.Cut.{takes_more, reached_new, reached_step, reached_cut}
use Rattle.line_restart.proofs.Restarting.{aside, aside_releases, restarts_reached}
use Rattle.worker_line.specs.Happening.{VenueEvent, after_called, after_doing, after_event, after_events, moments_of, MayAllHappen, AllTakeNext}
use Rattle.worker_line.specs.Happening.VenueEvent.{Works, Exchanges, Releases}
use Rattle.worker_line.specs.WorkerTheorem.{released_line}
use Rattle.worker_line.proofs.OneEvent.{event_leads}
use Rattle.worker_line.proofs.AskedAlong.{events_lead}
use Rattle.worker_restart.specs.WorkerLives.{WorkerLife, durable_at, killed_at, AreBroughtBy, IsBroughtBy, IsWorkerLife, WorkerRestarts, AreWorkerLives, last_life, life_moments, lives_moments}

module _ (config : ConfigParts) (read : Decoding) where
  pub events_reached : (a : Line) (events : List VenueEvent) → MayAllHappen read a events → AllTakeNext read a events
      → IsReached config a → IsReached config (after_events read a events)
  events_reached a events may next r =
      leads-trans (new_line config) a (after_events read a events) r (events_lead read a events may next)

  pub moments_reached : (a : Line) (events : List VenueEvent) → MayAllHappen read a events → AllTakeNext read a events
      → IsReached config a → All (IsReached config) (moments_of read a events)
  moments_reached a [] may next r = All-cons (IsReached config) a [] r (All-nil (IsReached config))
  moments_reached a (event ∷ events) may next r =
      All-cons (IsReached config) a (moments_of read (after_event read a event) events) r
      (moments_reached (after_event read a event) events may.1 next.1
      (leads-trans (new_line config) a (after_event read a event) r (event_leads read a event may.0 next.0)))

  -- what a worker does leaves the exchange and what is released
  module _ (n : ℕ) (d : Line) where
    called_aside : (a : Line) (made : SessionCall) → aside config n d (after_called read a made) ≡ aside config n d a
    called_aside a (call.Receive envelope) = refl
    called_aside a call.Confirm = refl
    called_aside a call.Connect = refl
    called_aside a (call.SendLeg ordinal leg) = refl
    called_aside a call.Quiet = refl
    called_aside a call.Silent = refl
    called_aside a call.Close = refl
    called_aside a call.Malformed = refl
    called_aside a call.Broken = refl
    called_aside a call.Abandon = refl

    doing_aside : (a : Line) (event : WorkerEvent) → aside config n d (after_doing read a event) ≡ aside config n d a
    doing_aside a (Calls made) = called_aside a made
    doing_aside a (Drops leg) = refl
    doing_aside a (Fails leg) = refl

    event_aside : (a : Line) (event : VenueEvent) → IsBroughtBy d.to_exchange event → MayAllHappen read a (event ∷ [])
        → IsReached config (aside config n d a) → IsReached config (aside config n d (after_event read a event))
    event_aside a (Works event) brought may r = subst (IsReached config) (sym (doing_aside a event)) r
    event_aside a (Exchanges coming t written) brought may r =
        reached_step config (aside config n d a) (aside config n d (after_event read a (Exchanges coming t written)))
        (line.exchanges coming t written brought may.0.1 refl) r
    event_aside a (Releases legs) brought may r =
        aside_releases config n d a legs (takes_more n a.released legs) r

    events_aside : (a : Line) (events : List VenueEvent) → AreBroughtBy d.to_exchange events
        → MayAllHappen read a events → IsReached config (aside config n d a)
        → IsReached config (aside config n d (after_events read a events))
    events_aside a [] brought may r = r
    events_aside a (event ∷ events) brought may r =
        events_aside (after_event read a event) events brought.1 may.1 (event_aside a event brought.0 (may.0, tt) r)

  pub durable_reached : (life : WorkerLife) → IsWorkerLife read life → IsReached config life.start
      → IsReached config (durable_at read life)
  durable_reached life is r = events_reached life.start life.durable is.run.happens is.takes r

  pub life_reached : (life : WorkerLife) → IsWorkerLife read life → IsReached config life.start
      → All (IsReached config) (life_moments read life)
  life_reached life is r =
      All-append (IsReached config) (moments_of read life.start life.durable)
      (moments_of read (durable_at read life) life.lost)
      (moments_reached life.start life.durable is.run.happens is.takes r)
      (moments_reached (durable_at read life) life.lost is.run.happens_then is.takes_then (durable_reached life is r))

  pub restart_reached : (life next : WorkerLife) → IsWorkerLife read life → WorkerRestarts read life next
      → IsReached config (durable_at read life) → IsReached config next.start
  restart_reached life next is restart r =
      let d = durable_at read life in
      let n = length restart.kept in
      subst (IsReached config) (sym restart.start)
      (restarts_reached config d (killed_at read life) restart.kept restart.forgotten d.left restart.released (omega arith)
      restart.whole (events_aside n d d life.lost is.run.wire is.run.happens_then (reached_cut config n d r restart.whole)))

  pub lives_reached : (life : WorkerLife) (lives : List WorkerLife) → AreWorkerLives read life lives
      → IsReached config life.start
      → All (IsReached config) (lives_moments read life lives)
  lives_reached life [] is r = life_reached life is r
  lives_reached life (next ∷ lives) is r =
      All-append (IsReached config) (life_moments read life) (lives_moments read next lives)
      (life_reached life is.0 r)
      (lives_reached next lives is.2 (restart_reached life next is.0 is.1 (durable_reached life is.0 r)))

  -- the last life: its start is reached, and leads to its end
  pub last_leads : (life : WorkerLife) (lives : List WorkerLife) → AreWorkerLives read life lives
      → IsReached config life.start
      → IsReached config (last_life life lives).start × Leads (last_life life lives).start (killed_at read (last_life life lives))
  last_leads life [] is r = (
    r,
    leads-trans life.start (durable_at read life) (killed_at read life)
        (events_lead read life.start life.durable is.run.happens is.takes)
        (events_lead read (durable_at read life) life.lost is.run.happens_then is.takes_then),
  )
  last_leads life (next ∷ lives) is r =
      last_leads next lives is.2 (restart_reached life next is.0 is.1 (durable_reached life is.0 r))

pub released_reached : (config : ConfigParts) (legs : List Leg) → IsReached config (released_line config legs)
released_reached config legs =
    reached_step config (new_line config) (released_line config legs) (line.releases legs refl) (reached_new config)

use Rattle.std.proofs.Common.{◌≡◌, true≢false, [], ◌++◌, sym, ap, subst, ◌∙◌}
use Rattle.dialect.specs.Wording.{Wording, Decoding}
use Rattle.session_core.specs.declared.phase.Phase.TheVariants.{Closed}
use Rattle.session_core.specs.Session.{SessionParts}
use Rattle.session_worker.specs.Hearing.{Said, said_after}
use Rattle.link.specs.Traffic.{Tells, Stays}
use Rattle.session_worker.specs.Speaking.{Speak}
use Rattle.session_worker.specs.Keeping.{TellsEvents}
use Rattle.session_worker.proofs.Told.{tells_on}
use Rattle.session_worker.proofs.Speech.{stays_on}
use Rattle.session_worker.specs.Events.{WorkerParts, calls_of, Goes}
use Rattle.session_worker.specs.Ends.{WorkerLeft, Runs, last_calls}
use Rattle.session_worker.specs.Linking.{WorkerStateParts, worker_in}
use Rattle.session_worker.proofs.Doing.{dropping, goes_on, goes_drains, speak_events, speak_last}
use Rattle.session_worker.proofs.Ran.{runs_as}
use Rattle.session_worker.proofs.worker.Worker.run_until.Goals as goal

pub returns : goal.returns
returns g c =
    let w : Wording = g.D.Dialect.wording c.self.inside.dialect in
    let read : Decoding = w.decoding in
    let a : WorkerStateParts = c.self.inside.state in
    let b : WorkerStateParts = c.turns-reason.new.self in
    let d : WorkerStateParts = c.finish.new.self in
    let e : WorkerStateParts = c.drain.new.self in
    let left : WorkerParts = record {
      session = c.into_parts-session.result.0;
      took = c.into_end.result;
      seat = c.state-2.inside.seat;
      wire = g.K.Link.wire c.into_parts-session.result.1;
      told = g.J.Telling.told c.into_parts-session.result.2;
    } in
    let same : left ≡ worker_in e = (λ k. record {
      session = c.into_parts-session.ensures.session k;
      took = c.into_end.ensures k;
      seat = c.state-2.inside.seat;
      wire = c.into_parts-session.ensures.wire k;
      told = c.into_parts-session.ensures.told k;
    }) ∙ ap worker_in c.state-2.view_is in
    let end : WorkerLeft = record { parts = left; reason = c.turns-reason.result } in
    let last = goes_on read (worker_in b) (worker_in d) (worker_in e) (last_calls b.io.session.phase) (dropping c.drain.ensures.legs)
    (c.finish.ensures.goes read) (goes_drains read d e c.drain.ensures) in
    let does = c.turns-reason.ensures.does in
    let quiet : Tells b.io.wire left.wire Stays =
    subst (λ (x : WorkerParts). Tells b.io.wire x.wire Stays) (sym same)
    (stays_on b.io.wire d.io.wire e.io.wire c.finish.ensures.wire c.drain.ensures.io.wire) in
    let over : left.session.phase ≡ Closed =
    ap (λ (x : WorkerParts). x.session.phase) same
    ∙ (ap (λ (s : SessionParts). s.phase) c.drain.ensures.io.session ∙ c.finish.ensures.over) in
    let said : Said = said_after [] (calls_of does.events) in
    let runs : Runs w (worker_in a) end = record {
      turns = does.events;
      at = worker_in b;
      goes = does.goes;
      reason_is = c.turns-reason.ensures.reason;
      dropped = c.drain.ensures.legs;
      last = subst (λ (x : WorkerParts). Goes read (worker_in b) (last_calls b.io.session.phase ++ dropping c.drain.ensures.legs) x) (sym same) last;
      over = over;
      tells = subst (λ (x : WorkerParts). TellsEvents a.io.told
          (does.events ++ last_calls b.io.session.phase ++ dropping c.drain.ensures.legs) x.told) (sym same)
          (tells_on a.io.told d.io.told e.io.told (does.events ++ last_calls b.io.session.phase)
          (dropping c.drain.ensures.legs)
          (tells_on a.io.told b.io.told d.io.told does.events (last_calls b.io.session.phase) does.tells c.finish.ensures.told)
          c.drain.ensures.io.told);
      bytes = λ off. speak_events w a.io.session [] does.events (last_calls b.io.session.phase) a.io.wire b.io.wire left.wire
          (does.speaks [] (λ on. absurd (true≢false (sym on ∙ off)))).0
          (subst (λ (s : SessionParts). Speak w s said (calls_of (last_calls b.io.session.phase)) b.io.wire left.wire) does.goes.session
          (speak_last w b.io.session said b.io.session.phase b.io.wire left.wire quiet));
    } in
    runs_as g.D.Dialect.wording _ _ end c.self.view_is runs

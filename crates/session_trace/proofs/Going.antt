-- A session that goes on, and its log.
use Rattle.std.proofs.Common.{◌≡◌, ℕ, List, [], ◌∷◌, ◌++◌, refl, sym, ap, subst}
use Rattle.std.specs.Prelude.{Option, Some, None, Result, Ok, Err, OnOk}
use Rattle.std.specs.Global.{Vec}
use Rattle.dialect.specs.Wording.{Wording}
use Rattle.session_core.specs.declared.session_call.SessionCall.{SessionCall}
use Rattle.session_core.specs.declared.session_call.SessionCall.TheVariants as call
use Rattle.session_core.specs.Calling.{broken}
use Rattle.session_trace.specs.declared.shown.Shown.TheVariants.{Sent, Received}
use Rattle.session_trace.specs.Shows.{TraceParts, Makes, Shows, Goes, GoesBy, Hears, HearsAs, TakesUnheard, IsOwn, hearing}
use Rattle.session_trace.specs.Shows.Shows.{sends, receives, hears, passes, calls_own, breaks}

pub goes_nowhere : (w : Wording) (t : TraceParts) → Goes w t t
goes_nowhere w t = λ config log explains. explains

pub goes_then : (w : Wording) (t u v : TraceParts) → Goes w t u → Goes w u v → Goes w t v
goes_then w t u v first next = λ config log explains. next config log (first config log explains)

-- then comes a step that may fail
pub goes_on : {X E : Type 0} (w : Wording) (t u v : TraceParts) (result : Result X E) → Goes w t u
    → OnOk result (Goes w u v) → OnOk result (Goes w t v)
goes_on w t u v (Ok x) first next = λ config log explains. next config log (first config log explains)
goes_on w t u v (Err e) first next = tt

pub goes_call : {X E : Type 0} (w : Wording) (t u : TraceParts) (made : SessionCall) (result : Result X E) → IsOwn made
    → OnOk result (Makes w t made u) → OnOk result (Goes w t u)
goes_call w t u made (Ok x) own makes = λ config log explains. record {
  calls = explains.calls ++ made ∷ [];
  shows = calls_own log explains.calls t u made explains.shows own makes;
}
goes_call w t u made (Err e) own makes = tt

pub goes_broken : (w : Wording) (t u : TraceParts) → u.session ≡ broken t.session → u.due ≡ [] → u.unheard ≡ []
    → Goes w t u
goes_broken w t u session due unheard = λ config log explains. record {
  calls = explains.calls ++ call.Broken ∷ [];
  shows = breaks log explains.calls t u explains.shows session due unheard;
}

-- a frame is heard
heard : (w : Wording) (t u v : TraceParts) (frame : List ℕ) (said : Option SessionCall) → hearing frame ≡ said
    → t ≡ record u { unheard = frame ∷ u.unheard } → HearsAs w u said v → Goes w t v
heard w t u v frame None is taken same = λ config log explains. record {
  calls = explains.calls;
  shows = subst (λ (x : TraceParts). Shows w config log explains.calls x) (sym same)
      (subst (λ (x : TraceParts). Shows w config log explains.calls (record x { unheard = u.unheard })) taken
      (passes log explains.calls t frame u.unheard explains.shows (ap (λ (x : TraceParts). x.unheard) taken) is));
}
heard w t u v frame (Some made) is taken makes = λ config log explains. record {
  calls = explains.calls ++ made ∷ [];
  shows = hears log explains.calls t v frame u.unheard made explains.shows (ap (λ (x : TraceParts). x.unheard) taken) is
      (subst (λ (x : TraceParts). Makes w (record x { unheard = u.unheard }) made v) (sym taken) makes);
}

pub goes_heard : {X E : Type 0} (w : Wording) (t u v : TraceParts) (frame : Vec ℕ) (result : Result X E)
    → TakesUnheard t (Some frame) u → OnOk result (Hears w u frame.items v) → OnOk result (Goes w t v)
goes_heard w t u v frame (Ok x) taken here = heard w t u v frame.items (hearing frame.items) refl taken here
goes_heard w t u v frame (Err e) taken here = tt

-- the log goes on by a line
pub goes_sent : {X E : Type 0} (w : Wording) (t u v : TraceParts) (frame : Vec ℕ) (result : Result X E) → Goes w t u
    → OnOk result (u ≡ record v { due = frame.items ∷ v.due }) → OnOk result (GoesBy w (Sent frame) t v)
goes_sent w t u v frame (Ok x) goes shown = λ config log explains.
    let there = goes config log explains in record {
      calls = there.calls;
      shows = subst (λ (x : TraceParts). Shows w config (log ++ Sent frame ∷ []) there.calls (record x { due = v.due })) shown
          (sends log there.calls u frame v.due there.shows (ap (λ (x : TraceParts). x.due) shown));
    }
goes_sent w t u v frame (Err e) goes shown = tt

pub goes_received : {X E : Type 0} (w : Wording) (t u : TraceParts) (frame : Vec ℕ) (result : Result X E)
    → OnOk result (u ≡ record t { unheard = t.unheard ++ frame.items ∷ [] }) → OnOk result (GoesBy w (Received frame) t u)
goes_received w t u frame (Ok x) is = λ config log explains. record {
  calls = explains.calls;
  shows = subst (λ (x : TraceParts). Shows w config (log ++ Received frame ∷ []) explains.calls x) (sym is)
      (receives log explains.calls t frame explains.shows);
}
goes_received w t u frame (Err e) is = tt

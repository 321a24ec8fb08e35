-- A call is made beside a log.
use Rattle.std.proofs.Common.{◌≡◌, ℕ, List, [], ◌++◌, map, refl, sym, ap, subst, ◌∙◌}
use Rattle.std.proofs.lemmas.List.{append-nil}
use Rattle.std.specs.Prelude.{Some, None, Result, Ok, Err, OnOk}
use Rattle.fix_tags.specs.Stamp.{StampParts}
use Rattle.dialect.specs.Framed.{AreFramed}
use Rattle.dialect.specs.Outgoing.{alone}
use Rattle.dialect.specs.Wording.{Wording}
use Rattle.session_core.specs.declared.session_call.SessionCall.{SessionCall}
use Rattle.session_core.specs.declared.step.Step.{Step}
use Rattle.session_core.specs.Trial.{Addition, Adds, called}
use Rattle.session_trace.specs.Shows.{TraceParts, Makes, messages_in}

-- a step was given, and its frames are due
step_by : (w : Wording) (t u v : TraceParts) (made : SessionCall) (stamp : StampParts) (step : Step)
    (addition : Addition) → addition ≡ called w.decoding t.session made
    → Adds w.encoding stamp addition (Ok (Some step)) u.session → u.due ≡ t.due → u.unheard ≡ t.unheard
    → v ≡ record u { due = u.due ++ step.out } → Makes w t made v
step_by w t u v made stamp step (None, after) is adds due unheard same = absurd adds
step_by w t u v made stamp step (Some said, after) is adds due unheard same = record {
  stamp = stamp;
  frames = step.out;
  framed = subst (λ (a : Addition). AreFramed w.encoding stamp (map alone (messages_in a.0)) step.out) is adds.0.out;
  session = ap (λ (x : TraceParts). x.session) same ∙ (adds.1 ∙ ap (λ (a : Addition). a.1) is);
  due = ap (λ (x : TraceParts). x.due) same ∙ ap (λ (d : List (List ℕ)). d ++ step.out) due;
  unheard = ap (λ (x : TraceParts). x.unheard) same ∙ unheard;
}

pub makes_step : {X E : Type 0} (w : Wording) (t u v : TraceParts) (made : SessionCall) (stamp : StampParts)
    (step : Step) (result : Result X E) → Adds w.encoding stamp (called w.decoding t.session made) (Ok (Some step)) u.session
    → u.due ≡ t.due → u.unheard ≡ t.unheard → OnOk result (v ≡ record u { due = u.due ++ step.out })
    → OnOk result (Makes w t made v)
makes_step w t u v made stamp step (Ok x) adds due unheard same =
    step_by w t u v made stamp step (called w.decoding t.session made) refl adds due unheard same
makes_step w t u v made stamp step (Err e) adds due unheard same = tt

-- none was given
none_by : (w : Wording) (t u : TraceParts) (made : SessionCall) (stamp : StampParts) (addition : Addition)
    → addition ≡ called w.decoding t.session made → Adds w.encoding stamp addition (Ok None) u.session → u.due ≡ t.due
    → u.unheard ≡ t.unheard → Makes w t made u
none_by w t u made stamp (Some said, after) is adds due unheard = absurd adds
none_by w t u made stamp (None, after) is adds due unheard = record {
  stamp = stamp;
  frames = [];
  framed = subst (λ (a : Addition). AreFramed w.encoding stamp (map alone (messages_in a.0)) []) is tt;
  session = adds ∙ ap (λ (a : Addition). a.1) is;
  due = due ∙ sym (append-nil t.due);
  unheard = unheard;
}

pub makes_none : (w : Wording) (t u : TraceParts) (made : SessionCall) (stamp : StampParts)
    → Adds w.encoding stamp (called w.decoding t.session made) (Ok None) u.session → u.due ≡ t.due
    → u.unheard ≡ t.unheard → Makes w t made u
makes_none w t u made stamp adds due unheard =
    none_by w t u made stamp (called w.decoding t.session made) refl adds due unheard

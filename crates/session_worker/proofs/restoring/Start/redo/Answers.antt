use Rattle.std.proofs.Common.{◌≡◌, ℕ, List, [], ◌∷◌, refl, sym, ap, subst, ◌∙◌}
use Rattle.std.specs.Prelude.{Ok, OnOk}
use Rattle.std.proofs.lemmas.Result.{on_ok_weaker}
use Rattle.dialect.specs.Wording.{Wording}
use Rattle.journal_words.specs.declared.deed.Deed.{Deed}
use Rattle.journal_words.specs.Deed.{Timed, timed}
use Rattle.journal_words.specs.Deed.DeedSaid.{Acts, OfLeg, Hears}
use Rattle.journal_words.specs.Reading.{timed_said, deed_in}
use Rattle.session_worker.specs.Keeping.{event_of}
use Rattle.session_worker.specs.Restoring.{StartParts, Redoes}
use Rattle.session_worker.proofs.restoring.Start.redo.Goals as goal

pub returns-in-Act : goal.returns-in-Act
returns-in-Act g c =
    let w : Wording = g.D.Dialect.wording c.args.dialect.now in
    let t : Timed = timed c.in-Ok.said.stamp (Acts c.in-Act.act) in
    let fields : List ℕ = c.read_deed.new.message.items in
    let says : timed_said c.args.line.now ≡ Ok t =
    c.in-Ok.ensures ∙ ap (λ (deed : Deed). Ok (timed c.in-Ok.said.stamp (deed_in deed fields))) c.in-Act.is in
    on_ok_weaker c.act.result
    (λ (redoes : Redoes w.decoding c.args.self.now (event_of t.deed ∷ []) c.act.new.self). (t, says, redoes)) c.act.ensures

pub returns-in-Leg : goal.returns-in-Leg
returns-in-Leg g c =
    let w : Wording = g.D.Dialect.wording c.args.dialect.now in
    let t : Timed = timed c.in-Ok.said.stamp (OfLeg c.in-Leg.act c.in-Leg.placed) in
    let fields : List ℕ = c.read_deed.new.message.items in
    let says : timed_said c.args.line.now ≡ Ok t =
    c.in-Ok.ensures ∙ ap (λ (deed : Deed). Ok (timed c.in-Ok.said.stamp (deed_in deed fields))) c.in-Leg.is in
    on_ok_weaker c.leg.result
    (λ (redoes : Redoes w.decoding c.args.self.now (event_of t.deed ∷ []) c.leg.new.self). (t, says, redoes)) c.leg.ensures

pub returns : goal.returns
returns g c =
    let w : Wording = g.D.Dialect.wording c.args.dialect.now in
    let fields : List ℕ = c.read_deed.new.message.items in
    let t : Timed = timed c.in-Ok.said.stamp (Hears fields) in
    let says : timed_said c.args.line.now ≡ Ok t =
    c.in-Ok.ensures ∙ ap (λ (deed : Deed). Ok (timed c.in-Ok.said.stamp (deed_in deed fields))) c.in-Heard.is in
    on_ok_weaker c.hear.result
    (λ (redoes : Redoes w.decoding c.args.self.now (event_of t.deed ∷ []) c.hear.new.self). (t, says, redoes))
    (subst (λ (message : List ℕ). OnOk c.hear.result (Redoes w.decoding c.args.self.now (event_of (Hears message) ∷ []) c.hear.new.self))
    c.as_slice.ensures.value c.hear.ensures)

use Rattle.std.proofs.Common.{◌≡◌, [], ◌∷◌, refl, sym, subst}
use Rattle.std.proofs.lemmas.Result.{on_ok_weaker}
use Rattle.dialect.specs.Wording.{Wording, Decoding}
use Rattle.journal_words.specs.declared.act.Act.{Act}
use Rattle.session_core.specs.declared.session_call.SessionCall.TheVariants as call
use Rattle.session_core.specs.Calling.{silent}
use Rattle.session_worker.specs.Events.WorkerEvent.{Calls}
use Rattle.session_worker.specs.Keeping.{call_of}
use Rattle.session_worker.specs.Restoring.{StartParts, note_in, CarriesOutAgain, Redoes}
use Rattle.session_worker.proofs.Redone.{start_of, redoes_given}
use Rattle.session_worker.proofs.restoring.Start.act.Goals as goal

pub returns-in-Confirmed : goal.returns-in-Confirmed
returns-in-Confirmed g c =
    let w : Wording = g.D.Dialect.wording c.args.dialect.now in
    let a : StartParts = c.args.self.now in
    let b : StartParts = c.confirm.new.self in
    on_ok_weaker c.confirm.result
    (λ (redoes : (read : Decoding) → Redoes read a (Calls call.Confirm ∷ []) b).
    subst (λ (act : Act). Redoes w.decoding a (Calls (call_of act) ∷ []) b) (sym c.in-Confirmed.is) (redoes w.decoding))
    c.confirm.ensures

pub returns-in-Silenced : goal.returns-in-Silenced
returns-in-Silenced g c =
    let w : Wording = g.D.Dialect.wording c.args.dialect.now in
    let a : StartParts = start_of c.self-in-Silenced.inside.session c.self-in-Silenced.inside.takings
    c.self-in-Silenced.inside.seat c.self-in-Silenced.inside.told c.self-in-Silenced.inside.booked
    (note_in c.self-in-Silenced.inside.waiting) in
    let m : StartParts = record a { session = c.silent-given.new.self } in
    let b : StartParts = c.carry_out-in-Silenced.new.self in
    on_ok_weaker c.carry_out-in-Silenced.result
    (λ (carries : CarriesOutAgain c.silent-given.result m b).
    subst (λ (act : Act). Redoes w.decoding c.args.self.now (Calls (call_of act) ∷ []) b) (sym c.in-Silenced.is)
    (subst (λ (x : StartParts). Redoes w.decoding x (Calls call.Silent ∷ []) b) c.self-in-Silenced.view_is
    (redoes_given w.decoding w.encoding c.args.stamp.now a m b call.Silent (silent a.session) c.silent-given.result refl
    refl refl refl refl c.silent-given.ensures.gives refl carries)))
    c.carry_out-in-Silenced.ensures

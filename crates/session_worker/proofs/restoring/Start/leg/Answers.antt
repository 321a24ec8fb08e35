use Rattle.std.proofs.Common.{rules, ◌≡◌, ℕ, ◌+◌, [], ◌∷◌, slice_get, refl, sym, ap, subst}
use Rattle.std.specs.Global.{Vec}
use Rattle.std.specs.Prelude.{Some, Result, OnOk}
use Rattle.dialect.specs.declared.message.Message.{Message}
use Rattle.dialect.specs.Framed.{IsFramed}
use Rattle.dialect.specs.Outgoing.{alone}
use Rattle.dialect.specs.Wording.{Wording}
use Rattle.journal_words.specs.declared.leg_act.LegAct.{LegAct}
use Rattle.journal_words.specs.declared.leg_act.LegAct.TheVariants.{Sent, Dropped, Failed}
use Rattle.leg.specs.declared.placed_leg.PlacedLeg.{PlacedLeg}
use Rattle.session_core.specs.declared.session_fault.SessionFault.{SessionFault}
use Rattle.session_worker.specs.declared.restoring.RedoFault.{RedoFault}
use Rattle.session_worker.specs.Events.{WorkerEvent}
use Rattle.session_worker.specs.Keeping.{leg_event}
use Rattle.session_worker.specs.Restoring.{StartParts, note_in, Redoes}
use Rattle.session_worker.proofs.Redone.{start_of, redoes_sent, redoes_unsent, redoes_dropped, redoes_failed}
use Rattle.session_worker.proofs.restoring.Start.leg.Goals as goal
use Rattle.session_worker.proofs.restoring.Start.leg.Goals.{in-Ok, in-Err-OutOfMemory, in-Err}

pub returns-in-Dropped : goal.returns-in-Dropped
returns-in-Dropped g c =
    let w : Wording = g.D.Dialect.wording c.args.dialect.now in
    let leg : PlacedLeg = c.args.placed.now in
    let a : StartParts = start_of c.self.inside.session c.self.inside.takings c.self.inside.seat c.self.inside.told
    c.self.inside.booked (note_in c.self.inside.waiting) in
    let m : StartParts = record a { told = a.told + 1 } in
    let b : StartParts = c.withdraw-in-Dropped.new.self in
    let at : slice_get a.took.taken a.told ≡ Some leg = c.is_leg.ensures.is.0 c.if-not-is_leg.false in
    subst (λ (act : LegAct). Redoes w.decoding c.args.self.now (leg_event act leg ∷ []) b) (sym c.in-Dropped.is)
    (subst (λ (x : StartParts). Redoes w.decoding x (leg_event Dropped leg ∷ []) b) c.self.view_is
    (redoes_dropped w.decoding a m b leg at refl c.withdraw-in-Dropped.ensures))

pub returns-in-Failed : goal.returns-in-Failed
returns-in-Failed g c =
    let w : Wording = g.D.Dialect.wording c.args.dialect.now in
    let leg : PlacedLeg = c.args.placed.now in
    let a : StartParts = start_of c.self.inside.session c.self.inside.takings c.self.inside.seat c.self.inside.told
    c.self.inside.booked (note_in c.self.inside.waiting) in
    let m : StartParts = record a { session = c.broken.new.self; told = a.told + 1 } in
    let b : StartParts = c.withdraw-in-Failed.new.self in
    let at : slice_get a.took.taken a.told ≡ Some leg = c.is_leg.ensures.is.0 c.if-not-is_leg.false in
    subst (λ (act : LegAct). Redoes w.decoding c.args.self.now (leg_event act leg ∷ []) b) (sym c.in-Failed.is)
    (subst (λ (x : StartParts). Redoes w.decoding x (leg_event Failed leg ∷ []) b) c.self.view_is
    (redoes_failed w.decoding a m b leg at (ap (λ s. record a { session = s; told = a.told + 1 }) c.broken.ensures)
    c.withdraw-in-Failed.ensures))

pub returns-after-send_leg : goal.returns-after-send_leg
returns-after-send_leg g c =
    let w : Wording = g.D.Dialect.wording c.args.dialect.now in
    let leg : PlacedLeg = c.args.placed.now in
    let a : StartParts = start_of c.self.inside.session c.self.inside.takings c.self.inside.seat c.self.inside.told
    c.self.inside.booked (note_in c.self.inside.waiting) in
    let at : slice_get a.took.taken a.told ≡ Some leg = c.is_leg.ensures.is.0 c.if-not-is_leg.false in
    let m : StartParts = record a { session = c.send_leg.new.self; told = a.told + 1 } in
    let sent : WorkerEvent = leg_event Sent leg in
    let b : StartParts = c.match-send_leg.self in
    subst (λ (act : LegAct). OnOk c.match-send_leg.result (Redoes w.decoding c.args.self.now (leg_event act leg ∷ []) b))
    (sym c.in-Sent.is) (elim c.match-send_leg.branch [
      | in-Ok v ↦
          subst (λ (r : Result (Unit {0}) RedoFault). OnOk r (Redoes w.decoding c.args.self.now (sent ∷ []) b)) (sym v.result-is)
          (subst (λ (x : StartParts). Redoes w.decoding c.args.self.now (sent ∷ []) x) (sym v.self-is)
          (subst (λ (x : StartParts). Redoes w.decoding x (sent ∷ []) m) c.self.view_is
          (redoes_sent (λ (said : Message) (bytes : Vec ℕ). IsFramed w.encoding c.args.stamp.now (alone said) bytes.items)
          w.decoding a m leg v.in-Ok.field-0 at v.in-Ok.ensures refl)))
      | in-Err-OutOfMemory v ↦
          subst (λ (r : Result (Unit {0}) RedoFault). OnOk r (Redoes w.decoding c.args.self.now (sent ∷ []) b)) (sym v.result-is) tt
      | in-Err v ↦
          let other : v.in-Err.field-0 ≡ SessionFault.OutOfMemory → ⊥ = search rules in
          let d : StartParts = v.withdraw.new.self in
          subst (λ (r : Result (Unit {0}) RedoFault). OnOk r (Redoes w.decoding c.args.self.now (sent ∷ []) b)) (sym v.result-is)
          (subst (λ (x : StartParts). Redoes w.decoding c.args.self.now (sent ∷ []) x) (sym v.self-is)
          (subst (λ (x : StartParts). Redoes w.decoding x (sent ∷ []) d) c.self.view_is
          (redoes_unsent (λ (said : Message) (bytes : Vec ℕ). IsFramed w.encoding c.args.stamp.now (alone said) bytes.items)
          w.decoding a m d leg v.in-Err.field-0 at other v.in-Err.ensures refl v.withdraw.ensures)))
    ])

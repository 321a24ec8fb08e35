use Rattle.std.proofs.Common.{◌≡◌, ◌==◌, false, Some, refl, sym, ◌∙◌, arith}
use Rattle.std.proofs.lemmas.Bool.{eq-eqb}
use Rattle.std.proofs.lemmas.Bool.Decides.{nat_tests}
use Rattle.resend.specs.Kept.{kept_legs}
use Rattle.resend.proofs.Ordinals.{ordinals_rise, runs_follow, state-doubt, state-settled}
use Rattle.resend.proofs.out_log.OutLog.state.Goals as goal
use Rattle.resend.proofs.out_log.OutLog.state.Goals.{in_default-via-in-Some+else-sent-ordinal, in_default-via-in_default}

pub ordinals_below-requires : goal.ordinals_below-requires
ordinals_below-requires c = rw (c.as_slice-window.ensures.value, c.self.invariant.0.in_doubt) (ordinals_rise _ _ c.self.invariant.0.rising)

pub settled_state-requires : goal.settled_state-requires
settled_state-requires c =
    let log = c.self.inside in
    rw c.as_slice.ensures.value (runs_follow log.last (kept_legs log.ids.items log.window.items log.runs.items) log.runs.items c.self.invariant.0.rising c.self.invariant.1.settled)

pub returns-in-Some : goal.returns-in-Some
returns-in-Some c =
    let log = c.self.inside in
    rw (← c.self.view_is)
    (sym (state-doubt c.args.ordinal log.last (kept_legs log.ids.items log.window.items log.runs.items) c.as_slice-window.result.now log.runs.items c.ordinals_below.result (Some c.in-Some.sent) c.self.invariant.0.rising
    (c.as_slice-window.ensures.value ∙ c.self.invariant.0.in_doubt) c.self.invariant.1.settled c.ordinals_below.ensures (sym c.in-Some.is ∙ c.sent_in.ensures)
    (eq-eqb _ _ c.if-sent-ordinal.true)))

pub returns-in_default : goal.returns-in_default
returns-in_default c =
    let log = c.self.inside in
    rw (← c.self.view_is, c.settled_state.ensures, c.as_slice.ensures.value)
    (sym (state-settled c.args.ordinal log.last (kept_legs log.ids.items log.window.items log.runs.items) c.as_slice-window.result.now log.runs.items c.ordinals_below.result c.sent_in.result c.self.invariant.0.rising
    (c.as_slice-window.ensures.value ∙ c.self.invariant.0.in_doubt) c.self.invariant.1.settled c.ordinals_below.ensures c.sent_in.ensures
    (elim c.in_default.branch [
      | in_default-via-in-Some+else-sent-ordinal w ↦
          (let other : (w.in-Some.sent.ordinal == c.args.ordinal) ≡ false = grind (arith, nat_tests, w.if-sent-ordinal.false) in rw w.in-Some.is other)
      | in_default-via-in_default w ↦ rw w.in_default.is refl
    ])))

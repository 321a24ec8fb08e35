use Rattle.std.proofs.Common.{◌≡◌, ◌==◌, false, Some, None, refl, ◌∙◌, arith}
use Rattle.std.proofs.lemmas.Bool.{eq-eqb}
use Rattle.std.proofs.lemmas.Bool.Decides.{nat_tests}
use Rattle.resend.specs.Kept.{kept_legs}
use Rattle.resend.proofs.Looking.{leg_at-found, numbers_rise}
use Rattle.resend.proofs.Standing.{ids-kept}
use Rattle.resend.proofs.out_log.OutLog.leg_at.Goals as goal
use Rattle.resend.proofs.out_log.OutLog.leg_at.Goals.{in_default-via-in-Some+else-leg-number, in_default-via-in_default}

pub numbers_below-requires : goal.numbers_below-requires
numbers_below-requires c =
    let log = c.self.inside in
    rw (c.as_slice-ids.ensures.value, ids-kept log.ids.items log.window.items log.runs.items) (numbers_rise 0 0 _ _ c.self.invariant.0.rising)

pub returns-in-Some : goal.returns-in-Some
returns-in-Some c =
    let log = c.self.inside in
    rw (← c.self.view_is, leg_at-found c.args.number log.last (kept_legs log.ids.items log.window.items log.runs.items) _ _ (Some c.in-Some.leg) c.self.invariant.0.rising (c.as_slice-ids.ensures.value ∙ ids-kept log.ids.items log.window.items log.runs.items) c.numbers_below.ensures c.in-Some.ensures, eq-eqb _ _ c.if-leg-number.true)
    refl

pub returns-in_default : goal.returns-in_default
returns-in_default c =
    let log = c.self.inside in
    rw (← c.self.view_is) (elim c.in_default.branch [
      | in_default-via-in-Some+else-leg-number w ↦
          (let other : (w.in-Some.leg.number == c.args.number) ≡ false = grind (arith, nat_tests, w.if-leg-number.false) in
          rw (leg_at-found c.args.number log.last (kept_legs log.ids.items log.window.items log.runs.items) _ _ (Some w.in-Some.leg) c.self.invariant.0.rising (c.as_slice-ids.ensures.value ∙ ids-kept log.ids.items log.window.items log.runs.items) c.numbers_below.ensures w.in-Some.ensures, other) refl)
      | in_default-via-in_default w ↦
          rw (leg_at-found c.args.number log.last (kept_legs log.ids.items log.window.items log.runs.items) _ _ None c.self.invariant.0.rising (c.as_slice-ids.ensures.value ∙ ids-kept log.ids.items log.window.items log.runs.items) c.numbers_below.ensures w.in_default.ensures) refl
    ])

use Rattle.std.proofs.Common.{◌≡◌, Bool, List, ℕ, Ok, Err, inr, subst, ◌∙◌}
use Rattle.std.specs.Prelude.{Result}
use Rattle.std.specs.Io.KnownBytes.{Appends}
use Rattle.live_load.specs.declared.live_plan.LivePlan.{LivePlan}
use Rattle.live_command.specs.declared.fault.CommandFault.{CommandFault}
use Rattle.live_command.specs.declared.fault.CommandFault.TheVariants.{NoAnswer}
use Rattle.live_command.specs.Running.{EndsAsked, IsDay}
use Rattle.live_command.proofs.live.Goals as goal

pub returns-then-day : goal.returns-then-day
returns-then-day g c =
    let before = g.W.Write.contents c.args.out.now in
    let after = g.W.Write.contents c.print.new.out in
    let done : Result (Unit {0}) CommandFault = Ok tt in
    let is_day : IsDay c.in_ok-plan.plan c.in_ok-day.day = record {
      live_day = c.in_ok-day.ensures.day;
      placed = c.in_ok-day.ensures.placed;
    } in
    let printed = subst (λ (bytes : List ℕ). Appends before after bytes) (c.deref.ensures.value ∙ c.in_ok-day_text.ensures) c.in_ok-print.ensures.ok in
    inr (
      c.in_ok-options.ensures.0,
      c.in_ok-options.options,
      c.in_ok-options.ensures.1,
      subst (λ (p : Result LivePlan CommandFault). EndsAsked p before after done) c.in_ok-plan.ensures.value
          (record { day = c.in_ok-day.day; is_day = is_day; answered_is = c.if-day.true; printed = printed }),
    )

pub returns : goal.returns
returns g c =
    let before = g.W.Write.contents c.args.out.now in
    let after = g.W.Write.contents c.print.new.out in
    let done : Result (Unit {0}) CommandFault = Err NoAnswer in
    let is_day : IsDay c.in_ok-plan.plan c.in_ok-day.day = record {
      live_day = c.in_ok-day.ensures.day;
      placed = c.in_ok-day.ensures.placed;
    } in
    let printed = subst (λ (bytes : List ℕ). Appends before after bytes) (c.deref.ensures.value ∙ c.in_ok-day_text.ensures) c.in_ok-print.ensures.ok in
    inr (
      c.in_ok-options.ensures.0,
      c.in_ok-options.options,
      c.in_ok-options.ensures.1,
      subst (λ (p : Result LivePlan CommandFault). EndsAsked p before after done) c.in_ok-plan.ensures.value
          (record { day = c.in_ok-day.day; is_day = is_day; answered_is = c.if-day.false; printed = printed }),
    )

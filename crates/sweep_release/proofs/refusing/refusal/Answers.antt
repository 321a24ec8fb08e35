use Rattle.std.proofs.Common.{ap, sym, ◌∙◌, arith}
use Rattle.std.specs.Prelude.{nat_le}
use Rattle.std.proofs.lemmas.Bool.Decides.{nat_tests}
use Rattle.sweep_release.specs.declared.release_fault.ReleaseFault.TheVariants.{UnknownVenue}
use Rattle.sweep_release.specs.Desk.{refused_at}
use Rattle.sweep_release.proofs.Refusals.{unknown_first, closed_first}
use Rattle.sweep_release.proofs.refusing.refusal.Goals as goal

pub returns-in-Some-clause-value : goal.returns-in-Some-clause-value
returns-in-Some-clause-value c =
    let legs = c.args.legs.now in
    sym (unknown_first c.args.desk.now.desk legs c.in-Some.fault (grind (arith, nat_tests)) (grind (arith, nat_tests))
    (ap (λ n. refused_at UnknownVenue (λ v. nat_le n v) legs) (sym c.venues.ensures.value) ∙ sym c.in-Some.ensures.value))

pub returns-in-Some-first_closed-clause-value : goal.returns-in-Some-first_closed-clause-value
returns-in-Some-first_closed-clause-value c =
    let legs = c.args.legs.now in
    sym (closed_first c.args.desk.now.desk legs c.in-Some-first_closed.fault (grind (arith, nat_tests)) (grind (arith, nat_tests))
    (ap (λ n. refused_at UnknownVenue (λ v. nat_le n v) legs) (sym c.venues.ensures.value) ∙ (sym c.first_unknown.ensures.value ∙ c.in_default.is))
    (sym c.in-Some-first_closed.ensures))

use Rattle.std.proofs.Common.{sym, ◌∙◌}
use Rattle.std.specs.Prelude.{nat_le}
use Rattle.std.proofs.lemmas.List.{at_drop_all}
use Rattle.sweep_release.specs.declared.release_fault.ReleaseFault.TheVariants.{UnknownVenue}
use Rattle.sweep_release.specs.Desk.{refused_at}
use Rattle.sweep_release.proofs.Refusals.{all_known}
use Rattle.sweep_release.proofs.refusing.first_unknown.Goals as goal

pub returns-clause-known : goal.returns-clause-known
returns-clause-known c =
    all_known c.args.venues c.args.legs.now
    (sym c.loop-routed.invariant
    ∙ at_drop_all (refused_at UnknownVenue (λ venue. nat_le c.args.venues venue)) c.args.legs.now c.loop-routed.routed-index c.loop-routed-test.false)

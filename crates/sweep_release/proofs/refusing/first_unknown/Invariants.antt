use Rattle.std.proofs.Common.{◌≡◌, drop}
use Rattle.std.specs.Prelude.{nat_le}
use Rattle.sweep_release.specs.declared.release_fault.ReleaseFault.TheVariants.{UnknownVenue}
use Rattle.sweep_release.specs.Desk.{refused_at}
use Rattle.sweep_release.proofs.refusing.first_unknown.Given as goal

abbrev pub invariant-loop-routed : goal.invariant-loop-routed
invariant-loop-routed l =
    refused_at UnknownVenue (λ venue. nat_le l.venues venue) (drop l.routed-index l.legs)
    ≡ refused_at UnknownVenue (λ venue. nat_le l.venues venue) l.legs

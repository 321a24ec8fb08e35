-- The refusals of a sweep, in their order.
use Rattle.std.proofs.Common.{◌≡◌, ℕ, ◌<◌, Bool, true, false, not, List, [], ◌∷◌, length, Some, None, refl, arith, if◌then◌else◌}
use Rattle.std.specs.Prelude.{◌==◌, nat_le, nat_lt, Option}
use Rattle.std.specs.List.{All}
use Rattle.std.proofs.lemmas.Bool.Decides.{nat_tests}
use Rattle.std.proofs.lemmas.List.Elements.{All-nil, All-cons}
use Rattle.leg.specs.declared.sweep.Routed.{Routed}
use Rattle.sweep_release.specs.declared.release_fault.ReleaseFault.{ReleaseFault}
use Rattle.sweep_release.specs.declared.release_fault.ReleaseFault.TheVariants.{UnknownVenue, GateShut}
use Rattle.sweep_release.specs.Desk.{DeskParts, refused_at, is_up, gate_of, release_refusal}

pub not_first : (b : Bool) (fault : ReleaseFault) (rest : Option ReleaseFault) → (if b then Some fault else rest) ≡ None → (b ≡ false) × (rest ≡ None)
not_first true fault rest e = cc
not_first false fault rest e = (refl, e)

-- where no leg is refused for its venue, the desk has them all
pub all_known : (venues : ℕ) (legs : List Routed) → refused_at UnknownVenue (λ venue. nat_le venues venue) legs ≡ None → All (λ routed. routed.venue < venues) legs
all_known venues [] e = All-nil (λ routed. routed.venue < venues)
all_known venues (routed ∷ legs) e =
    let parts = not_first (nat_le venues routed.venue) (UnknownVenue routed.venue) (refused_at UnknownVenue (λ venue. nat_le venues venue) legs) e in
    let within = parts.0 in
    All-cons (λ r. r.venue < venues) routed legs (grind (arith, nat_tests)) (all_known venues legs parts.1)

pub unknown_first : (desk : DeskParts) (legs : List Routed) (fault : ReleaseFault) → (length legs == 0) ≡ false → nat_lt 32 (length legs) ≡ false → refused_at UnknownVenue (λ venue. nat_le (length desk.venues) venue) legs ≡ Some fault → release_refusal desk legs ≡ Some fault
unknown_first desk legs fault some short unknown = rw some (rw short (rw unknown refl))

pub closed_first : (desk : DeskParts) (legs : List Routed) (fault : ReleaseFault) → (length legs == 0) ≡ false → nat_lt 32 (length legs) ≡ false → refused_at UnknownVenue (λ venue. nat_le (length desk.venues) venue) legs ≡ None → refused_at GateShut (λ venue. not (is_up (gate_of desk venue))) legs ≡ Some fault → release_refusal desk legs ≡ Some fault
closed_first desk legs fault some short known closed = rw some (rw short (rw known (rw closed refl)))

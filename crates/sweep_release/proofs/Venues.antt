-- A change at one venue, seen from each venue.
use Rattle.std.proofs.Common.{◌≡◌, ◌≢◌, ℕ, zero, suc, ◌+◌, ◌<◌, ◌≤◌, inl, inr, length, replicate, refl, ap, sym, ◌∙◌}
use Rattle.std.specs.Prelude.{slice_get, slice_set, unwrap_or}
use Rattle.std.proofs.lemmas.Bool.{cases_eq, cases_lt}
use Rattle.std.proofs.lemmas.List.{get_or-set_same, get_or-set_other, set_past}
use Rattle.std.proofs.lemmas.Option.{unwrap_or-slice_get}
use Rattle.sweep_release.specs.declared.gate.Gate.{Gate}
use Rattle.sweep_release.specs.declared.gate.Gate.TheVariants.{Down, Shut}
use Rattle.sweep_release.specs.Desk.{DeskVenue, DeskParts, new_desk, venue_at, with_venue, gate_of, with_gate, one_left}

-- each other venue stays as it is
pub venue_at-other : (venue other : ℕ) (now : DeskVenue) (desk : DeskParts) → other ≢ venue → venue_at (with_venue venue now desk) other ≡ venue_at desk other
venue_at-other venue other now desk differs =
    let none : DeskVenue = record { gate = Shut; left = 0 } in
    unwrap_or-slice_get (slice_set desk.venues venue now) other none
    ∙ (get_or-set_other desk.venues venue other now none differs
    ∙ sym (unwrap_or-slice_get desk.venues other none))

-- the venue itself is as it is put, if the desk has it
pub venue_at-this : (venue : ℕ) (now : DeskVenue) (desk : DeskParts) → venue < length desk.venues → venue_at (with_venue venue now desk) venue ≡ now
venue_at-this venue now desk there =
    let none : DeskVenue = record { gate = Shut; left = 0 } in
    unwrap_or-slice_get (slice_set desk.venues venue now) venue none
    ∙ get_or-set_same desk.venues venue now none there

-- and else nothing changes
pub with_venue-past : (venue : ℕ) (now : DeskVenue) (desk : DeskParts) → length desk.venues ≤ venue → with_venue venue now desk ≡ desk
with_venue-past venue now desk past = λ i. record { sweeps = desk.sweeps; venues = set_past desk.venues venue now past i }

-- a gate's change keeps how many legs left
pub left-with_gate : (venue other : ℕ) (gate : Gate) (desk : DeskParts) → (venue_at (with_gate venue gate desk) other).left ≡ (venue_at desk other).left
left-with_gate venue other gate desk =
    elim (cases_eq other venue) [
      | inl same ↦
          elim (cases_lt venue (length desk.venues)) [
            | inl there ↦
                (let now : DeskVenue = record { gate = gate; left = (venue_at desk venue).left } in
                ap (λ v. (venue_at (with_gate venue gate desk) v).left) same
                ∙ (ap (λ v. v.left) (venue_at-this venue now desk there)
                ∙ ap (λ v. (venue_at desk v).left) (sym same)))
            | inr past ↦ ap (λ d. (venue_at d other).left) (with_venue-past venue (record { gate = gate; left = (venue_at desk venue).left }) desk past)
          ]
      | inr differs ↦ ap (λ v. v.left) (venue_at-other venue other (record { gate = gate; left = (venue_at desk venue).left }) desk differs)
    ]

-- a leg that leaves keeps the gates
pub gate_of-one_left : (venue other : ℕ) (desk : DeskParts) → gate_of (one_left venue desk) other ≡ gate_of desk other
gate_of-one_left venue other desk =
    let now : DeskVenue = record { gate = gate_of desk venue; left = (venue_at desk venue).left + 1 } in
    elim (cases_eq other venue) [
      | inl same ↦
          elim (cases_lt venue (length desk.venues)) [
            | inl there ↦
                ap (λ v. gate_of (one_left venue desk) v) same
                ∙ (ap (λ v. v.gate) (venue_at-this venue now desk there)
                ∙ ap (gate_of desk) (sym same))
            | inr past ↦ ap (λ d. gate_of d other) (with_venue-past venue now desk past)
          ]
      | inr differs ↦ ap (λ v. v.gate) (venue_at-other venue other now desk differs)
    ]

-- a leg more left for this venue, if the desk has it
pub left-one_left : (venue : ℕ) (desk : DeskParts) → venue < length desk.venues → (venue_at (one_left venue desk) venue).left ≡ (venue_at desk venue).left + 1
left-one_left venue desk there =
    ap (λ v. v.left) (venue_at-this venue (record { gate = gate_of desk venue; left = (venue_at desk venue).left + 1 }) desk there)

-- at first no leg left
left-replicate : (n venue : ℕ) → (let v : DeskVenue = unwrap_or (slice_get (replicate n (let w : DeskVenue = record { gate = Down; left = 0 } in w)) venue) (record { gate = Shut; left = 0 }) in v.left) ≡ 0
left-replicate zero venue = refl
left-replicate (suc n) zero = refl
left-replicate (suc n) (suc venue) = left-replicate n venue

pub left-new_desk : (venues venue : ℕ) → (venue_at (new_desk venues) venue).left ≡ 0
left-new_desk venues venue = left-replicate venues venue

-- Lemmas: a leg's number of a fixed width is read from its one spelling, and from nothing else.
use Rattle.std.proofs.Common.{◌≡◌, ℕ, ◌≤◌, List, Some, refl, subst}
use Rattle.std.proofs.lemmas.Option.{option_and_then_some, same_Some}
use Rattle.leg.specs.LegId.{LegIdParts, IsLegId}
use Rattle.dialect.specs.Digits.{digits, fixed_of}
use Rattle.dialect.specs.Lemmas.DigitsLaws.{rest_of, fixed_of-digits, fixed_of-Some}
use Rattle.dialect.specs.FixedId.{fixed_id_of}

-- a number that fits its width
pub fixed_id_of-digits : (base width : ℕ) (id : LegIdParts) → 2 ≤ base → base ≤ 16 → IsLegId id
    → rest_of base width id.sweep ≡ 0 → rest_of base 2 id.place ≡ 0
    → fixed_id_of base width (digits base width id.sweep) (digits base 2 id.place) ≡ Some id
fixed_id_of-digits base width id low high range sweep place =
    rw (
      fixed_of-digits base width 999_999_999_999 id.sweep low high range.sweep_low range.sweep_high sweep,
      fixed_of-digits base 2 32 id.place low high range.place_low range.place_high place,
    ) refl

-- what is known of two texts that are read as a leg's number
pub record IsFixedId (base width : ℕ) (sweep_text place_text : List ℕ) (id : LegIdParts) : Type 0 where
  pub in_range : IsLegId id
  pub sweep_is : digits base width id.sweep ≡ sweep_text
  pub place_is : digits base 2 id.place ≡ place_text

pub fixed_id_of-Some : (base width : ℕ) (sweep_text place_text : List ℕ) (id : LegIdParts) → 2 ≤ base → base ≤ 16
    → fixed_id_of base width sweep_text place_text ≡ Some id → IsFixedId base width sweep_text place_text id
fixed_id_of-Some base width sweep_text place_text id low high e =
    option_and_then_some _ (fixed_of base width 999_999_999_999 sweep_text) id e (λ sweep first e1.
    option_and_then_some _ (fixed_of base 2 32 place_text) id e1 (λ place second e2.
    let front = fixed_of-Some base width 999_999_999_999 sweep_text sweep low high first in
    let back = fixed_of-Some base 2 32 place_text place low high second in
    let range : IsLegId (record { sweep = sweep; place = place }) =
    record { sweep_low = front.low; sweep_high = front.high; place_low = back.low; place_high = back.high } in
    subst (IsFixedId base width sweep_text place_text) (same_Some _ _ e2)
    (record { in_range = range; sweep_is = front.text_is; place_is = back.text_is })))

-- Of two rising lists of as many numbers, one in the other, each has the other's.
use Rattle.std.proofs.Common.{◌≡◌, ◌≤◌, ◌<◌, ◌+◌, ◌-◌, ℕ, zero, suc, List, length, get_or, sym, ap, subst, ◌∙◌, inl, inr, arith}
use Rattle.std.specs.List.{Contains}
use Rattle.std.specs.List.Sorted.{IsStrictlyIncreasing}
use Rattle.std.proofs.lemmas.Bool.{cases_lt}
use Rattle.std.proofs.lemmas.Grind.{get_or_default_zero}
use Rattle.std.proofs.lemmas.List.Elements.{Contains-get_or}
use Rattle.std.proofs.lemmas.List.Kept.{AllPairs-from_increasing}

module _ (xs ys : List ℕ) (rise : IsStrictlyIncreasing xs) (rise_too : IsStrictlyIncreasing ys)
    (in_it : (n : ℕ) → Contains xs n → Contains ys n) where
  -- the place in the longer list of a number of the other
  abbrev IsPlaceOf : ℕ → ℕ → Type 0
  IsPlaceOf k j = (j < length ys) × (get_or ys j 0 ≡ get_or xs k 0)

  place_of : (k : ℕ) → k < length xs → (j : ℕ) × IsPlaceOf k j
  place_of k low =
      let there = in_it (get_or xs k 0) (Contains-get_or xs k 0 low) in
      (there.0, (there.1, sym (get_or_default_zero ys there.0 (get_or xs k 0) there.1) ∙ there.2))

  places_rise : (k l i j : ℕ) → k < l → l < length xs → IsPlaceOf k i → IsPlaceOf l j → i < j
  places_rise k l i j below within here there =
      elim (cases_lt i j) [
        | inl lower ↦ lower
        | inr upper ↦
            absurd (let up = AllPairs-from_increasing xs rise k l 0 below within in
            elim (cases_lt j i) [
              | inl above ↦
                  (let down = AllPairs-from_increasing ys rise_too j i 0 above here.0 in
                  let e = here.1 in
                  let f = there.1 in
                  omega arith)
              | inr level ↦
                  (let same : i ≡ j = omega arith in
                  let one = ap (λ n. get_or ys n 0) same in
                  let e = here.1 in
                  let f = there.1 in
                  omega arith)
            ])
      ]

  -- it isn't before, and not behind
  not_before : (k j : ℕ) → k < length xs → IsPlaceOf k j → k ≤ j
  not_before zero j low here = omega arith
  not_before (suc k) j low here =
      let last = place_of k (omega arith) in
      let at = not_before k last.0 (omega arith) last.1 in
      let rises = places_rise k (suc k) last.0 j (omega arith) low last.1 here in
      omega arith

  not_behind : (d k j : ℕ) → k + suc d ≡ length xs → IsPlaceOf k j → j + d < length ys
  not_behind zero k j end here = (let low = here.0 in omega arith)
  not_behind (suc d) k j end here =
      let next = place_of (suc k) (omega arith) in
      let at = not_behind d (suc k) next.0 (omega arith) next.1 in
      let rises = places_rise k (suc k) j next.0 (omega arith) (omega arith) here next.1 in
      omega arith

  pub no_other : length xs ≡ length ys → (n : ℕ) → Contains ys n → Contains xs n
  no_other long n there =
      let j = there.0 in
      let low = there.1 in
      let within : j < length xs = omega arith in
      let place = place_of j within in
      let before = not_before j place.0 within place.1 in
      let behind = not_behind (length xs - suc j) j place.0 (omega arith) place.1 in
      let same : place.0 ≡ j = omega arith in
      let at : get_or xs j 0 ≡ get_or ys j 0 = sym place.1.1 ∙ ap (λ k. get_or ys k 0) same in
      subst (Contains xs) (at ∙ (sym (get_or_default_zero ys j n low) ∙ there.2)) (Contains-get_or xs j 0 within)

-- The accepted legs of a line have one list of ordinals: whoever tells them tells the same.
use Rattle.std.proofs.Common.{◌≡◌, ◌≤◌, ◌<◌, ◌⊎◌, ℕ, zero, suc, List, [], ◌∷◌, length, map, get_or, Some, sym, ap, subst, ◌∙◌, inl, inr, arith}
use Rattle.std.specs.List.{Contains}
use Rattle.std.specs.List.Sorted.{IsStrictlyIncreasing}
use Rattle.std.proofs.lemmas.Bool.{cases_lt}
use Rattle.std.proofs.lemmas.Grind.{get_or_default_zero}
use Rattle.std.proofs.lemmas.List.{length-map}
use Rattle.std.proofs.lemmas.List.Elements.{Contains-get_or}
use Rattle.std.proofs.lemmas.List.Kept.{AllPairs-from_increasing}
use Rattle.leg.specs.Numbered.{numbered}
use Rattle.leg.specs.declared.leg.Leg.{Leg}
use Rattle.venue_line.specs.Line.{Line}
use Rattle.venue_line.specs.LineTheorem.{IsWithdrawnLeg, LineHolds}

-- an ordinal that has a leg isn't 0
positive : (ordinal : ℕ) (leg : Leg) (released : List Leg) → Some leg ≡ numbered ordinal released → 1 ≤ ordinal
positive zero leg released is = absurd cc
positive (suc n) leg released is = omega arith

all_positive : (legs released : List Leg) (ordinals : List ℕ)
    → map (λ leg. Some leg) legs ≡ map (λ ordinal. numbered ordinal released) ordinals
    → (k : ℕ) → k < length ordinals → 1 ≤ get_or ordinals k 0
all_positive legs released [] same k low = absurd (omega arith)
all_positive [] released (o ∷ ordinals) same k low = absurd cc
all_positive (leg ∷ legs) released (o ∷ ordinals) same zero low =
    let first : Some leg ≡ numbered o released = cc in positive o leg released first
all_positive (leg ∷ legs) released (o ∷ ordinals) same (suc k) low =
    let rest : map (λ leg. Some leg) legs ≡ map (λ ordinal. numbered ordinal released) ordinals = cc in
    all_positive legs released ordinals rest k (omega arith)

-- rising numbers that leave out nothing but what is gone
record LeavesOut (Gone : ℕ → Type 0) (xs : List ℕ) : Type 0 where
  from : (k : ℕ) → k < length xs → 1 ≤ get_or xs k 0
  rise : IsStrictlyIncreasing xs
  missing : (ordinal later : ℕ) → 1 ≤ ordinal → ordinal < later → Contains xs later → Contains xs ordinal ⊎ Gone ordinal
  never : (ordinal : ℕ) → Gone ordinal → Contains xs ordinal → ⊥

-- the same at the first places
abbrev AreSameTo : List ℕ → List ℕ → ℕ → Type 0
AreSameTo xs ys k = (j : ℕ) → j < k → get_or xs j 0 ≡ get_or ys j 0

module _ (Gone : ℕ → Type 0) where
  not_below : (xs ys : List ℕ) → LeavesOut Gone xs → LeavesOut Gone ys → (k : ℕ) → k < length xs → k < length ys
      → AreSameTo xs ys k → get_or xs k 0 < get_or ys k 0 → ⊥
  not_below xs ys x y k low within same below =
      elim (y.missing (get_or xs k 0) (get_or ys k 0) (x.from k low) below (Contains-get_or ys k 0 within)) [
        | inl there ↦
            at there.0 there.1 (sym (get_or_default_zero ys there.0 (get_or xs k 0) there.1) ∙ there.2)
            (cases_lt there.0 k)
        | inr gone ↦ x.never (get_or xs k 0) gone (Contains-get_or xs k 0 low)
      ]
    where
      at : (j : ℕ) → j < length ys → get_or ys j 0 ≡ get_or xs k 0 → (j < k) ⊎ (k ≤ j) → ⊥
      at j among is (inl lower) =
          let e = same j lower in
          let up = AllPairs-from_increasing xs x.rise j k 0 lower low in
          omega arith
      at j among is (inr upper) =
          elim (cases_lt k j) [
            | inl above ↦ (let up = AllPairs-from_increasing ys y.rise k j 0 above among in omega arith)
            | inr level ↦
                (let e : k ≡ j = omega arith in
                let one = ap (λ n. get_or ys n 0) e in
                omega arith)
          ]

  same_to : (xs ys : List ℕ) → LeavesOut Gone xs → LeavesOut Gone ys → (k : ℕ) → k ≤ length xs → k ≤ length ys
      → AreSameTo xs ys k
  same_to xs ys x y zero low within = λ j below. absurd (omega arith)
  same_to xs ys x y (suc k) low within =
      let before = same_to xs ys x y k (omega arith) (omega arith) in
      let here : get_or xs k 0 ≡ get_or ys k 0 =
      elim (cases_lt (get_or xs k 0) (get_or ys k 0)) [
        | inl below ↦ absurd (not_below xs ys x y k (omega arith) (omega arith) before below)
        | inr high ↦
            elim (cases_lt (get_or ys k 0) (get_or xs k 0)) [
              | inl above ↦
                  absurd (not_below ys xs y x k (omega arith) (omega arith) (λ j lower. sym (before j lower)) above)
              | inr level ↦ omega arith
            ]
      ] in
      λ j below.
      elim (cases_lt j k) [
        | inl lower ↦ before j lower
        | inr upper ↦
            (let e : j ≡ k = omega arith in subst (λ n. get_or xs n 0 ≡ get_or ys n 0) (sym e) here)
      ]

module _ (w : Line) where
  leaves_out : (holds : LineHolds w) → LeavesOut (IsWithdrawnLeg w) holds.ordinals
  leaves_out holds = record {
    from = all_positive w.exchange.intake.accepted w.released holds.ordinals holds.released;
    rise = holds.in_order;
    missing = holds.missing_is_withdrawn;
    never = holds.withdrawn_is_missing;
  }

  pub as_many : (holds : LineHolds w) → length holds.ordinals ≡ length w.exchange.intake.accepted
  as_many holds =
      sym (length-map holds.ordinals (λ ordinal. numbered ordinal w.released))
      ∙ (sym (ap length holds.released) ∙ length-map w.exchange.intake.accepted (λ leg. Some leg))

  pub one_order : (holds other : LineHolds w) (ordinal : ℕ) → Contains holds.ordinals ordinal
      → Contains other.ordinals ordinal
  one_order holds other ordinal there =
      let many = as_many holds in
      let others = as_many other in
      let low = there.1 in
      let within : there.0 < length other.ordinals = omega arith in
      let same = same_to (IsWithdrawnLeg w) holds.ordinals other.ordinals (leaves_out holds) (leaves_out other)
      (length holds.ordinals) (omega arith) (omega arith) there.0 low in (
        there.0,
        within,
        get_or_default_zero other.ordinals there.0 ordinal within
            ∙ (sym same ∙ (sym (get_or_default_zero holds.ordinals there.0 ordinal low) ∙ there.2)),
      )

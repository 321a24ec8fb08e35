-- The sums of what was counted of each sweep, when one is counted anew.
use Rattle.std.proofs.Common.{◌≡◌, ℕ, zero, suc, ◌+◌, ◌<◌, ◌≤◌, List, [], ◌∷◌, ◌++◌, length, get_or, inl, inr, refl, sym, ap, subst, ◌∙◌, arith}
use Rattle.std.specs.Prelude.{sum_by}
use Rattle.std.proofs.Math.ListN.{set}
use Rattle.std.proofs.lemmas.Bool.{cases_lt}
use Rattle.std.proofs.lemmas.List.Sums.{sum_by-set, sum_by_push, get_or-le-sum_by}
use Rattle.leg.specs.declared.totals.Totals.{Totals}
use Rattle.day_sweeps.specs.Sweeps.{sum_of}
use Rattle.desk_serve.specs.Sums.{AreCounted, IsCounted, IsSum, all_recounted, nothing, recounted, sums_of}

one_more : (f : Totals → ℕ) (xs : List Totals) → f nothing ≡ 0 → sum_by f xs ≡ sum_by f (xs ++ nothing ∷ [])
one_more f xs none = let more = sum_by_push f xs nothing in omega (arith, none, more)

pub sums_more : (xs : List Totals) → sums_of xs ≡ sums_of (xs ++ nothing ∷ [])
sums_more xs =
    let filled = one_more (λ t. t.filled) xs refl in
    let busted = one_more (λ t. t.busted) xs refl in
    let cancelled = one_more (λ t. t.cancelled) xs refl in
    let withdrawn = one_more (λ t. t.withdrawn) xs refl in
    let still_open = one_more (λ t. t.still_open) xs refl in
    (λ k. record {
      filled = filled k;
      busted = busted k;
      cancelled = cancelled k;
      withdrawn = withdrawn k;
      still_open = still_open k;
    })

counted_more : (number : ℕ) (xs : List Totals) → AreCounted number xs → AreCounted number (xs ++ nothing ∷ [])
counted_more number [] told = (inl refl, tt)
counted_more number (t ∷ ts) told = (told.0, counted_more (suc number) ts told.1)

counted_set : (number at : ℕ) (xs : List Totals) (now : Totals) → AreCounted number xs → IsCounted (number + at) now
    → AreCounted number (set xs at now)
counted_set number at [] now told is = tt
counted_set number zero (t ∷ ts) now told is =
    let here : number + 0 ≡ number = omega arith in
    (subst (λ (n : ℕ). IsCounted n now) here is, told.1)
counted_set number (suc at) (t ∷ ts) now told is =
    let next : number + suc at ≡ suc number + at = omega arith in
    (told.0, counted_set (suc number) at ts now told.1 (subst (λ (n : ℕ). IsCounted n now) next is))

-- nothing is counted of one sweep more
pub more_counted : (xs next : List Totals) (sums : Totals) → next ≡ xs ++ nothing ∷ [] → IsSum xs sums
    → IsSum next sums
more_counted xs next sums pushed are =
    subst (λ (l : List Totals). IsSum l sums) (sym pushed)
    (record {
      booked = counted_more 1 xs are.booked;
      is = elim are.is [ inl same ↦ inl (same ∙ sums_more xs) | inr passed ↦ inr passed ];
    })

counted_part : (f : Totals → ℕ) (xs : List Totals) (at sum : ℕ) (before now : Totals) → at < length xs
    → before ≡ get_or xs at before → sum ≡ sum_by f xs → sum_by f (set xs at now) ≤ 18446744073709551615
    → recounted sum (f before) (f now) ≡ sum_by f (set xs at now)
counted_part f xs at sum before now low there is few =
    let anew = sum_by-set f xs at now before low in
    let one = get_or-le-sum_by f xs at before low in
    let was = ap f there in
    omega (arith, anew, one, was, is, few)

-- a sweep is counted anew
pub counted_anew : (xs : List Totals) (at : ℕ) (before now sums next : Totals) → at < length xs
    → before ≡ get_or xs at before → IsCounted (suc at) now → IsSum xs sums
    → next ≡ all_recounted sums before now → IsSum (set xs at now) next
counted_anew xs at before now sums next low there counted are is =
    let number : suc at ≡ 1 + at = omega arith in
    let told = counted_set 1 at xs now are.booked (subst (λ (n : ℕ). IsCounted n now) number counted) in
    let all = sums_of (set xs at now) in
    record {
      booked = told;
      is = elim are.is [
        | inr passed ↦ inr passed
        | inl same ↦ elim (cases_lt 18446744073709551615 (sum_of all)) [
          | inl many ↦ inr (record { counted = set xs at now; booked = told; many = many })
          | inr few ↦ inl (is ∙ (λ k. record {
            filled = counted_part (λ t. t.filled) xs at sums.filled before now low there
                (ap (λ t. t.filled) same) (omega (arith, few)) k;
            busted = counted_part (λ t. t.busted) xs at sums.busted before now low there
                (ap (λ t. t.busted) same) (omega (arith, few)) k;
            cancelled = counted_part (λ t. t.cancelled) xs at sums.cancelled before now low there
                (ap (λ t. t.cancelled) same) (omega (arith, few)) k;
            withdrawn = counted_part (λ t. t.withdrawn) xs at sums.withdrawn before now low there
                (ap (λ t. t.withdrawn) same) (omega (arith, few)) k;
            still_open = counted_part (λ t. t.still_open) xs at sums.still_open before now low there
                (ap (λ t. t.still_open) same) (omega (arith, few)) k;
          }))
        ]
      ];
    }

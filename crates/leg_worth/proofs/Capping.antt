-- Sums that are kept up to a greatest number.
use Rattle.std.proofs.Common.{◌≡◌, ℕ, zero, suc, ◌+◌, min, refl, ap, sym, ◌∙◌, arith}
use Rattle.leg.specs.LegId.{LegIdParts}
use Rattle.leg_worth.specs.declared.worth.Worth.{Worth}
use Rattle.leg_worth.specs.Worth.{both, capped, worth_below}

same_worth : (a b : Worth) → a.value ≡ b.value → a.unpriced ≡ b.unpriced → a ≡ b
same_worth a b value unpriced = λ i. record { value = value i; unpriced = unpriced i }

cap_twice : (s x most : ℕ) → min (min s most + x) most ≡ min (s + x) most
cap_twice s x most = omega arith

-- one more is added to a sum that was kept so
pub capped_more : (sum more : Worth) → capped (both (capped sum) more) ≡ capped (both sum more)
capped_more sum more = same_worth (capped (both (capped sum) more)) (capped (both sum more))
    (cap_twice sum.value more.value 340282366920938463463374607431768211455)
    (cap_twice sum.unpriced more.unpriced 18446744073709551615)

-- where each leg has the same worth, so have the first ones
pub below_same : (f g : LegIdParts → Worth) → ((id : LegIdParts) → f id ≡ g id) → (number places : ℕ)
    → worth_below f number places ≡ worth_below g number places
below_same f g same number zero = refl
below_same f g same number (suc places) =
    λ i. both (below_same f g same number places i) (same (record { sweep = number; place = suc places }) i)

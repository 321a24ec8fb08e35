-- Sums over the numbers below one.
use Rattle.std.proofs.Common.{◌≡◌, ◌≢◌, ℕ, zero, suc, ◌+◌, ◌<◌, ◌≤◌, inl, inr, refl, arith}
use Rattle.std.proofs.lemmas.Bool.{cases_eq, cases_lt}
use Rattle.exec_collector.specs.Resolved.{sum_below}

pub below-le : (f : ℕ → ℕ) (n m : ℕ) → n ≤ m → sum_below f n ≤ sum_below f m
below-le f n zero low = let none : n ≡ 0 = omega (arith, low) in rw none (omega arith)
below-le f n (suc m) low =
    elim (cases_lt m n) [
      | inl top ↦ (let same : n ≡ suc m = omega (arith, low, top) in rw same (omega arith))
      | inr under ↦ (let rest = below-le f n m under in omega (arith, rest))
    ]

pub below-same : (f g : ℕ → ℕ) (n : ℕ) → ((v : ℕ) → v < n → g v ≡ f v) → sum_below g n ≡ sum_below f n
below-same f g zero same = refl
below-same f g (suc n) same =
    let rest = below-same f g n (λ v low. same v (omega (arith, low))) in
    let last = same n (omega arith) in
    omega (arith, rest, last)

below_of : (v n : ℕ) → v < suc n → v ≢ n → v < n
below_of v n low apart =
    elim (cases_lt v n) [
      | inl under ↦ under
      | inr above ↦ absurd (apart (omega (arith, low, above)))
    ]

-- one of the numbers differs
pub below-one : (f g : ℕ → ℕ) (n v a b : ℕ) → v < n → ((w : ℕ) → w ≢ v → g w ≡ f w) → g v + a ≡ f v + b
    → sum_below g n + a ≡ sum_below f n + b
below-one f g zero v a b low others this = absurd (omega (arith, low))
below-one f g (suc n) v a b low others this =
    elim (cases_eq v n) [
      | inl here ↦
          (let rest = below-same f g n (λ w under. others w (λ e. absurd (omega (arith, e, here, under)))) in
          let last : g n + a ≡ f n + b = rw here at this in
          omega (arith, rest, last))
      | inr apart ↦
          (let under : v < n = below_of v n low apart in
          let rest = below-one f g n v a b under others this in
          let last = others n (λ e. apart (omega (arith, e))) in
          omega (arith, rest, last))
    ]

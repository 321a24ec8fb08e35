-- How a number is judged.
use Rattle.std.proofs.Common.{◌≡◌, ◌<◌, ◌==◌, ℕ, Bool, true, false, nat_lt, refl, if◌then◌else◌, arith}
use Rattle.std.specs.Prelude.{◌↔◌}
use Rattle.std.proofs.lemmas.Bool.{eqb-true, eq-eqb}
use Rattle.std.proofs.lemmas.Bool.Decides.{nat_tests}
use Rattle.resend.specs.declared.judged.Judged.{Judged}
use Rattle.resend.specs.declared.judged.Judged.TheVariants.{Due, Ahead, Repeat, TooLow}
use Rattle.resend.specs.Judging.{judged}

by_tests : Bool → Bool → Bool → Judged
by_tests same above dup = if same then Due else (if above then Ahead else (if dup then Repeat else TooLow))

due_tested : (same above dup : Bool) → by_tests same above dup ≡ Due → same ≡ true
unfolding by_tests
due_tested true above dup is = refl
due_tested false true dup is = absurd cc
due_tested false false true is = absurd cc
due_tested false false false is = absurd cc

ahead_tested : (same above dup : Bool) → by_tests same above dup ≡ Ahead → above ≡ true
unfolding by_tests
ahead_tested true above dup is = absurd cc
ahead_tested false true dup is = refl
ahead_tested false false true is = absurd cc
ahead_tested false false false is = absurd cc

pub due_is_expected : (expected number : ℕ) (poss_dup : Bool) → (judged expected number poss_dup ≡ Due ↔ number ≡ expected)
unfolding by_tests
due_is_expected expected number poss_dup = (
  (λ is. eqb-true number expected (due_tested (number == expected) (nat_lt expected number) poss_dup is)),
  (λ same. (let e : (number == expected) ≡ true = eq-eqb number expected same in rw e refl)),
)

pub ahead_is_above : (expected number : ℕ) (poss_dup : Bool) → (judged expected number poss_dup ≡ Ahead ↔ expected < number)
unfolding by_tests
ahead_is_above expected number poss_dup = (
  (λ is. (let above = ahead_tested (number == expected) (nat_lt expected number) poss_dup is in grind (arith, nat_tests, above))),
  (λ above.
      (let lt : nat_lt expected number ≡ true = grind (arith, nat_tests) in
      let ne : (number == expected) ≡ false = grind (arith, nat_tests) in
      rw (ne, lt) refl)),
)

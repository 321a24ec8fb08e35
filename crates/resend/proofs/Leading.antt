-- How many elements a list begins with that pass a test.
use Rattle.std.proofs.Common.{◌≡◌, ◌<◌, ◌≤◌, ℕ, zero, suc, Bool, true, false, List, [], ◌∷◌, length, get_or, refl, ap, if◌then◌else◌, arith}
use Rattle.resend.specs.Kept.{leading}

module _ {A : Type 0} (test : A → Bool) where
  pub leading-is : (xs : List A) (count : ℕ) → count ≤ length xs
      → ((k : ℕ) (d : A) → k < count → test (get_or xs k d) ≡ true)
      → ((k : ℕ) (d : A) → count ≤ k → k < length xs → test (get_or xs k d) ≡ false)
      → count ≡ leading test xs
  leading-is [] count le passes fails = omega arith
  leading-is (x ∷ xs) zero le passes fails = let out : test x ≡ false = fails 0 x (omega arith) (omega arith) in rw out refl
  leading-is (x ∷ xs) (suc count) le passes fails =
      let is : test x ≡ true = passes 0 x (omega arith) in
      rw is (ap suc (leading-is xs count (omega arith) (λ k d lt. passes (suc k) d (omega arith)) (λ k d from lt. fails (suc k) d (omega arith) (omega arith))))

  fits_turn : (b : Bool) (count long : ℕ) → count ≤ long → (if b then suc count else 0) ≤ suc long
  fits_turn true count long le = omega arith
  fits_turn false count long le = omega arith

  pub leading-le : (xs : List A) → leading test xs ≤ length xs
  leading-le [] = omega arith
  leading-le (x ∷ xs) = fits_turn (test x) (leading test xs) (length xs) (leading-le xs)

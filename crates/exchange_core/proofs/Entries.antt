-- Entries of lists that grow at their end.
use Rattle.std.proofs.Common.{◌≡◌, ℕ, zero, suc, Bool, true, false, List, [], ◌∷◌, ◌++◌, length, map, take, drop, Some, refl, subst, if◌then◌else◌}
use Rattle.std.specs.List.{AllByRecursion}
use Rattle.std.proofs.lemmas.Option.{same_Some}
use Rattle.leg.specs.Numbered.{numbered, with_numbered}

-- a choice by a test has what both choices have
pub chosen : {A : Type 0} (P : A → Type 0) (b : Bool) (x y : A) → (b ≡ true → P x) → (b ≡ false → P y) → P (if b then x else y)
chosen P true x y on off = on refl
chosen P false x y on off = off refl

-- the entry at the seam of two lists
pub numbered-seam : {A B : Type 0} (f : A → B) (front : List A) (x : A) (back : List A) → numbered (suc (length front)) (map f (front ++ x ∷ back)) ≡ Some (f x)
numbered-seam f [] x back = refl
numbered-seam f (first ∷ front) x back = numbered-seam f front x back

-- the second entry behind a seam
pub numbered-second : {A B : Type 0} (f : A → B) (front : List A) (x y : A) (back : List A) → numbered (suc (suc (length front))) (map f (front ++ x ∷ y ∷ back)) ≡ Some (f y)
numbered-second f [] x y back = refl
numbered-second f (first ∷ front) x y back = numbered-second f front x y back

-- What holds of each entry of a list: where one is replaced or added, of one, and of a part.
module _ {A : Type 0} (P : A → Type 0) where
  pub all_with : (xs : List A) (place : ℕ) (x : A) → AllByRecursion P xs → P x → AllByRecursion P (with_numbered place x xs)
  all_with xs zero x all is = all
  all_with [] (suc i) x all is = tt
  all_with (y ∷ ys) (suc zero) x all is = (is, all.1)
  all_with (y ∷ ys) (suc (suc i)) x all is = (all.0, all_with ys (suc i) x all.1 is)

  pub all_both : (xs ys : List A) → AllByRecursion P xs → AllByRecursion P ys → AllByRecursion P (xs ++ ys)
  all_both [] ys front back = back
  all_both (x ∷ xs) ys front back = (front.0, all_both xs ys front.1 back)

  pub all_more : (xs : List A) (x : A) → AllByRecursion P xs → P x → AllByRecursion P (xs ++ x ∷ [])
  all_more xs x all is = all_both xs (x ∷ []) all (is, tt)

  pub all_at : (xs : List A) (place : ℕ) (x : A) → AllByRecursion P xs → numbered place xs ≡ Some x → P x
  all_at xs zero x all there = cc
  all_at [] (suc i) x all there = cc
  all_at (y ∷ ys) (suc zero) x all there = subst P (same_Some y x there) all.0
  all_at (y ∷ ys) (suc (suc i)) x all there = all_at ys (suc i) x all.1 there

  pub all_take : (count : ℕ) (xs : List A) → AllByRecursion P xs → AllByRecursion P (take count xs)
  all_take zero xs all = tt
  all_take (suc count) [] all = tt
  all_take (suc count) (x ∷ xs) all = (all.0, all_take count xs all.1)

  pub all_drop : (count : ℕ) (xs : List A) → AllByRecursion P xs → AllByRecursion P (drop count xs)
  all_drop zero xs all = all
  all_drop (suc count) [] all = tt
  all_drop (suc count) (x ∷ xs) all = all_drop count xs all.1

  pub all_last : (xs : List A) (x : A) → AllByRecursion P (xs ++ x ∷ []) → P x
  all_last [] x all = all.0
  all_last (y ∷ ys) x all = all_last ys x all.1

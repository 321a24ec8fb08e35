-- An element keeps its number where a list grows at its end.
use Rattle.std.proofs.Common.{◌≡◌, ℕ, zero, suc, List, [], ◌∷◌, ◌++◌, Some}
use Rattle.std.specs.Prelude.{slice_get}
use Rattle.leg.specs.Numbered.{numbered}

slice_get-append : {A : Type 0} (n : ℕ) (xs more : List A) (x : A) → slice_get xs n ≡ Some x → slice_get (xs ++ more) n ≡ Some x
slice_get-append n [] more x there = cc
slice_get-append zero (first ∷ xs) more x there = there
slice_get-append (suc n) (first ∷ xs) more x there = slice_get-append n xs more x there

pub numbered-append : {A : Type 0} (number : ℕ) (xs more : List A) (x : A) → numbered number xs ≡ Some x → numbered number (xs ++ more) ≡ Some x
numbered-append zero xs more x there = cc
numbered-append (suc before) xs more x there = slice_get-append before xs more x there

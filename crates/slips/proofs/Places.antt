-- The places of a chain: what is read at one, what is put there, and which slips are out.
use Rattle.std.proofs.Common.{◌≡◌, ℕ, zero, suc, List, [], ◌∷◌, ◌++◌, refl, sym, ap, ◌∙◌, subst}
use Rattle.std.specs.Prelude.{IsPermutation}
use Rattle.std.proofs.lemmas.List.Sorted.{IsPermutation-refl, IsPermutation-trans, IsPermutation-cons, IsPermutation-middle}
use Rattle.slips.specs.Slips.{AreOf, all_out}

module _ {X : Type 0} where
  -- x is at this place
  abbrev pub IsAt : List X → ℕ → X → Type 0
  IsAt [] place x = ⊥
  IsAt (z ∷ xs) zero x = z ≡ x
  IsAt (z ∷ xs) (suc place) x = IsAt xs place x

  -- y in the stead of what is at this place
  abbrev pub put : List X → ℕ → X → List X
  put [] place y = []
  put (z ∷ xs) zero y = y ∷ xs
  put (z ∷ xs) (suc place) y = z ∷ put xs place y

  pub put_back : (xs : List X) (place : ℕ) (x y : X) → IsAt xs place x → put (put xs place y) place x ≡ xs
  put_back [] place x y is = absurd is
  put_back (z ∷ xs) zero x y is = ap (λ w. w ∷ xs) (sym is)
  put_back (z ∷ xs) (suc place) x y is = ap (λ ws. z ∷ ws) (put_back xs place x y is)

module _ {T : Type 0} where
  -- the items whose slips are out
  abbrev if_out : ℕ → T → List T → List T
  if_out zero item items = item ∷ items
  if_out (suc mark) item items = items

  abbrev pub out : List (T × ℕ) → List T
  out [] = []
  out (slip ∷ slips) = if_out slip.1 slip.0 (out slips)

  pub out_of_all : (items : List T) → out (all_out items) ≡ items
  out_of_all [] = refl
  out_of_all (item ∷ items) = ap (λ more. item ∷ more) (out_of_all items)

  pub all_push : (items : List T) (item : T) → all_out (items ++ item ∷ []) ≡ all_out items ++ (item, 0) ∷ []
  all_push [] item = refl
  all_push (first ∷ items) item = ap (λ more. (first, 0) ∷ more) (all_push items item)

  in_front : (mark : ℕ) (z x : T) (items less : List T) → IsPermutation items (x ∷ less)
      → IsPermutation (if_out mark z items) (x ∷ if_out mark z less)
  in_front zero z x items less same =
      IsPermutation-trans (z ∷ items) (z ∷ x ∷ less) (x ∷ z ∷ less) (IsPermutation-cons z items (x ∷ less) same)
      (IsPermutation-middle (z ∷ []) x less)
  in_front (suc mark) z x items less same = same

  -- a slip that is counted is out no more
  pub one_back : (slips : List (T × ℕ)) (place : ℕ) (x : T) → IsAt slips place (x, 0)
      → IsPermutation (out slips) (x ∷ out (put slips place (x, 1)))
  one_back [] place x is = absurd is
  one_back (slip ∷ slips) zero x is =
      subst (λ (s : T × ℕ). IsPermutation (if_out s.1 s.0 (out slips)) (x ∷ out slips)) (sym is)
      (IsPermutation-refl (x ∷ out slips))
  one_back (slip ∷ slips) (suc place) x is =
      in_front slip.1 slip.0 x (out slips) (out (put slips place (x, 1))) (one_back slips place x is)

  pub none_of : (items : List T) → AreOf [] items
  none_of items = record { rest = items; all = IsPermutation-refl items }

  pub one_more_of : (x : T) (held given less : List T) → IsPermutation given (x ∷ less) → AreOf held less
      → AreOf (x ∷ held) given
  one_more_of x held given less same are = record {
    rest = are.rest;
    all = IsPermutation-trans given (x ∷ less) (x ∷ (held ++ are.rest)) same
        (IsPermutation-cons x less (held ++ are.rest) are.all);
  }

-- A list of which the first ones were made anew, each by its place.
use Rattle.std.proofs.Common.{◌≡◌, ◌≤◌, ◌+◌, ℕ, zero, suc, List, [], ◌∷◌, length, Option, Some, None, refl, sym, ap, ◌∙◌, arith}
use Rattle.std.specs.Prelude.{slice_get, slice_set}
use Rattle.std.proofs.lemmas.Option.{same_Some}
use Rattle.world_restart.specs.Journal.{each_from}

abbrev pub upto : {A : Type 0} → ℕ → (ℕ → A → A) → ℕ → List A → List A
upto zero make place xs = xs
upto (suc n) make place [] = []
upto (suc n) make place (x ∷ xs) = make place x ∷ upto n make (suc place) xs

pub upto_length : {A : Type 0} (n : ℕ) (make : ℕ → A → A) (place : ℕ) (xs : List A)
    → length (upto n make place xs) ≡ length xs
upto_length zero make place xs = refl
upto_length (suc n) make place [] = refl
upto_length (suc n) make place (x ∷ xs) = ap suc (upto_length n make (suc place) xs)

pub upto_all : {A : Type 0} (n : ℕ) (make : ℕ → A → A) (place : ℕ) (xs : List A) → length xs ≤ n
    → upto n make place xs ≡ each_from make place xs
upto_all zero make place [] past = refl
upto_all zero make place (x ∷ xs) past = absurd (omega arith)
upto_all (suc n) make place [] past = refl
upto_all (suc n) make place (x ∷ xs) past = ap (λ l. make place x ∷ l) (upto_all n make (suc place) xs (omega arith))

pub upto_at : {A : Type 0} (n : ℕ) (make : ℕ → A → A) (place : ℕ) (xs : List A)
    → slice_get (upto n make place xs) n ≡ slice_get xs n
upto_at zero make place xs = refl
upto_at (suc n) make place [] = refl
upto_at (suc n) make place (x ∷ xs) = upto_at n make (suc place) xs

pub upto_next : {A : Type 0} (n : ℕ) (make : ℕ → A → A) (place : ℕ) (xs : List A) (x : A)
    → slice_get xs n ≡ Some x
    → slice_set (upto n make place xs) n (make (place + n) x) ≡ upto (suc n) make place xs
upto_next zero make place [] x there = absurd cc
upto_next zero make place (y ∷ xs) x there =
    let at : place + 0 ≡ place = omega arith in
    (λ i. make (at i) x ∷ xs) ∙ ap (λ z. make place z ∷ xs) (sym (same_Some y x there))
upto_next (suc n) make place [] x there = absurd cc
upto_next (suc n) make place (y ∷ xs) x there =
    let at : place + suc n ≡ suc place + n = omega arith in
    (λ i. make place y ∷ slice_set (upto n make (suc place) xs) n (make (at i) x))
    ∙ ap (λ l. make place y ∷ l) (upto_next n make (suc place) xs x there)

-- so of the whole list, from its first place
pub upto_more : {A : Type 0} (n : ℕ) (make : ℕ → A → A) (xs : List A) (x : A) → slice_get xs n ≡ Some x
    → slice_set (upto n make 0 xs) n (make n x) ≡ upto (n + 1) make 0 xs
upto_more n make xs x there =
    let at : n ≡ 0 + n = omega arith in
    let one : suc n ≡ n + 1 = omega arith in
    (λ i. slice_set (upto n make 0 xs) n (make (at i) x))
    ∙ (upto_next n make 0 xs x there ∙ ap (λ k. upto k make 0 xs) one)

-- Elements of lists by their places: of a list that something was made of, of the first elements, and of what was cut.
use Rattle.std.proofs.Common.{◌≡◌, ◌≤◌, ◌<◌, ◌+◌, ◌-◌, ℕ, zero, suc, List, [], ◌∷◌, ◌++◌, length, take, drop, Option, Some, None, refl, sym, ap, ◌∙◌, inl, inr, arith}
use Rattle.std.specs.Prelude.{slice_get, option_map}
use Rattle.std.specs.List.{Contains}
use Rattle.std.proofs.lemmas.Bool.{cases_lt}
use Rattle.std.proofs.lemmas.List.{take-append-le}
use Rattle.std.proofs.lemmas.Option.{same_Some}
use Rattle.std.proofs.Math.Seq.{take-append-add, take-nil}
use Rattle.leg.specs.Numbered.{numbered}
use Rattle.world_restart.specs.Journal.{each_from}

-- what was made of each of a list
each_get : {A B : Type 0} (make : ℕ → A → B) (place v : ℕ) (xs : List A)
    → slice_get (each_from make place xs) v ≡ option_map (make (place + v)) (slice_get xs v)
each_get make place v [] = refl
each_get make place zero (x ∷ xs) =
    let at : place ≡ place + 0 = omega arith in ap (λ k. Some (make k x)) at
each_get make place (suc v) (x ∷ xs) =
    let at : suc place + v ≡ place + suc v = omega arith in
    each_get make (suc place) v xs ∙ ap (λ k. option_map (make k) (slice_get xs v)) at

each_at : {A B : Type 0} (make : ℕ → A → B) (v : ℕ) (xs : List A)
    → slice_get (each_from make 0 xs) v ≡ option_map (make v) (slice_get xs v)
each_at make v xs =
    let at : 0 + v ≡ v = omega arith in each_get make 0 v xs ∙ ap (λ k. option_map (make k) (slice_get xs v)) at

pub each_is : {A B : Type 0} (make : ℕ → A → B) (v : ℕ) (xs : List A) (x : A) → slice_get xs v ≡ Some x
    → slice_get (each_from make 0 xs) v ≡ Some (make v x)
each_is make v xs x there = each_at make v xs ∙ ap (option_map (make v)) there

-- where something was made, it was made of something
made_of : {A B : Type 0} (make : A → B) (found : Option A) (y : B) → option_map make found ≡ Some y
    → (x : A) × (found ≡ Some x) × (make x ≡ y)
made_of make None y is = absurd cc
made_of make (Some x) y is = (x, refl, same_Some (make x) y is)

pub each_of : {A B : Type 0} (make : ℕ → A → B) (v : ℕ) (xs : List A) (y : B)
    → slice_get (each_from make 0 xs) v ≡ Some y → (x : A) × (slice_get xs v ≡ Some x) × (make v x ≡ y)
each_of make v xs y there = made_of (make v) (slice_get xs v) y (sym (each_at make v xs) ∙ there)

pub each_length : {A B : Type 0} (make : ℕ → A → B) (place : ℕ) (xs : List A)
    → length (each_from make place xs) ≡ length xs
each_length make place [] = refl
each_length make place (x ∷ xs) = ap suc (each_length make (suc place) xs)

-- a place within a list
pub get_within : {A : Type 0} (xs : List A) (k : ℕ) → k < length xs → (x : A) × (slice_get xs k ≡ Some x)
get_within [] k low = absurd (omega arith)
get_within (x ∷ xs) zero low = (x, refl)
get_within (x ∷ xs) (suc k) low = get_within xs k (omega arith)

-- the first elements of a list
get-take : {A : Type 0} (n k : ℕ) (xs : List A) → k < n → slice_get (take n xs) k ≡ slice_get xs k
get-take zero k xs low = absurd (omega arith)
get-take (suc n) k [] low = refl
get-take (suc n) zero (x ∷ xs) low = refl
get-take (suc n) (suc k) (x ∷ xs) low = get-take n k xs (omega arith)

pub numbered-take : {A : Type 0} (n number : ℕ) (xs : List A) → number ≤ n
    → numbered number (take n xs) ≡ numbered number xs
numbered-take n zero xs low = refl
numbered-take n (suc k) xs low = get-take n k xs (omega arith)

pub within_take : {A : Type 0} (n k : ℕ) (xs : List A) → k ≤ n → k ≤ length xs → k ≤ length (take n xs)
within_take n zero xs low within = omega arith
within_take zero (suc k) xs low within = absurd (omega arith)
within_take (suc n) (suc k) [] low within = absurd (omega arith)
within_take (suc n) (suc k) (x ∷ xs) low within =
    (let h = within_take n k xs (omega arith) (omega arith) in omega arith)

-- of those that grew, a number of the first ones has the same element
get-front : {A : Type 0} (k : ℕ) (xs more : List A) → k < length xs → slice_get (xs ++ more) k ≡ slice_get xs k
get-front k [] more low = absurd (omega arith)
get-front zero (x ∷ xs) more low = refl
get-front (suc k) (x ∷ xs) more low = get-front k xs more (omega arith)

pub numbered-front : {A : Type 0} (number : ℕ) (xs more : List A) → number ≤ length xs
    → numbered number (xs ++ more) ≡ numbered number xs
numbered-front zero xs more low = refl
numbered-front (suc k) xs more low = get-front k xs more (omega arith)

pub numbered_low : {A : Type 0} (number : ℕ) (xs : List A) (x : A) → numbered number xs ≡ Some x
    → (1 ≤ number) × (number ≤ length xs)
numbered_low zero xs x is = absurd cc
numbered_low (suc zero) [] x is = absurd cc
numbered_low (suc (suc k)) [] x is = absurd cc
numbered_low (suc zero) (y ∷ xs) x is = (omega arith, omega arith)
numbered_low (suc (suc k)) (y ∷ xs) x is = (let h = numbered_low (suc k) xs x is in (omega arith, omega (arith, h.1)))

-- what is behind a list is cut, or the list itself is
pub data TakesMore {A : Type 0} (n : ℕ) (xs more : List A) : Type 0 where
  same : take n (xs ++ more) ≡ take n xs → TakesMore n xs more
  some : (k : ℕ) → take n (xs ++ more) ≡ take n xs ++ take k more → TakesMore n xs more

pub all_taken : {A : Type 0} (n : ℕ) (xs : List A) → length xs ≤ n → take n xs ≡ xs
all_taken n [] low = take-nil n
all_taken zero (x ∷ xs) low = absurd (omega arith)
all_taken (suc n) (x ∷ xs) low = ap (λ l. x ∷ l) (all_taken n xs (omega arith))

pub takes_more : {A : Type 0} (n : ℕ) (xs more : List A) → TakesMore n xs more
takes_more n xs more =
    elim (cases_lt n (length xs)) [
      | inl low ↦ same (take-append-le n xs more (omega arith))
      | inr high ↦
          (let sum : n ≡ length xs + (n - length xs) = omega arith in
          some (n - length xs)
          (ap (λ m. take m (xs ++ more)) sum
          ∙ (take-append-add xs more (n - length xs)
          ∙ ap (λ l. l ++ take (n - length xs) more) (sym (all_taken n xs high)))))
    ]

-- the first ones of the first ones are as many of the first ones as both have
pub data TakesFewer {A : Type 0} (n m : ℕ) (xs : List A) : Type 0 where
  inner : take n (take m xs) ≡ take n xs → TakesFewer n m xs
  outer : m ≤ n → take n (take m xs) ≡ take m xs → TakesFewer n m xs

pub take_take : {A : Type 0} (n m : ℕ) (xs : List A) → n ≤ m → take n (take m xs) ≡ take n xs
take_take zero m [] low = ap (take 0) (take-nil m)
take_take zero zero (x ∷ xs) low = refl
take_take zero (suc m) (x ∷ xs) low = refl
take_take (suc n) zero xs low = absurd (omega arith)
take_take (suc n) (suc m) [] low = refl
take_take (suc n) (suc m) (x ∷ xs) low = ap (λ l. x ∷ l) (take_take n m xs (omega arith))

taken_length : {A : Type 0} (m : ℕ) (xs : List A) → length (take m xs) ≤ m
taken_length zero [] = omega arith
taken_length zero (x ∷ xs) = omega arith
taken_length (suc m) [] = omega arith
taken_length (suc m) (x ∷ xs) = (let h = taken_length m xs in omega arith)

pub takes_fewer : {A : Type 0} (n m : ℕ) (xs : List A) → TakesFewer n m xs
takes_fewer n m xs =
    elim (cases_lt n m) [
      | inl low ↦ inner (take_take n m xs (omega arith))
      | inr high ↦ outer high (all_taken n (take m xs) (let h = taken_length m xs in omega arith))
    ]

-- what is behind some lines is among all
pub contains_drop : {A : Type 0} (n : ℕ) (xs : List A) (x : A) → Contains (drop n xs) x → Contains xs x
contains_drop zero [] x there = there
contains_drop zero (y ∷ xs) x there = there
contains_drop (suc n) [] x there = there
contains_drop (suc n) (y ∷ xs) x there =
    (let rest = contains_drop n xs x there in let h = rest.1 in (suc rest.0, omega arith, rest.2))

pub contains_first : {A : Type 0} (xs : List A) (x : A) → slice_get xs 0 ≡ Some x → Contains xs x
contains_first [] x is = absurd cc
contains_first (y ∷ xs) x is = (0, omega arith, same_Some y x is)

-- The kept legs, by their numbers: after one of them changed, and after a sweep was opened.
use Rattle.std.proofs.Common.{◌≡◌, ◌≢◌, ℕ, zero, suc, ◌+◌, ◌<◌, ◌≤◌, inl, inr, true, false, List, [], ◌∷◌, ◌++◌, length, set, Some, refl, ap, sym, ◌∙◌, arith}
use Rattle.std.specs.Prelude.{◌==◌, ◌&&◌, slice_get, option_map, option_and_then, sum_by}
use Rattle.std.specs.Global.{Vec}
use Rattle.std.proofs.lemmas.Bool.{cases_eq, eq-eqb}
use Rattle.std.proofs.lemmas.List.{get_or-set_same, length-set}
use Rattle.std.proofs.lemmas.List.Sums.{sum_by-set, get_or-le-sum_by}
use Rattle.std.proofs.lemmas.Option.{slice_get-get_or, slice_get_within, get_or_from_slice_get}
use Rattle.leg.specs.Numbered.{numbered}
use Rattle.leg.specs.declared.sweep.Routed.{Routed}
use Rattle.share_ledger.specs.Entries.{is_same_leg}
use Rattle.share_ledger.specs.Book.{BookParts, BookedLeg, booked_from}
use Rattle.share_ledger.specs.Kept.{kept_leg, booked_leg, sum_over, legs_due}

pub same_list : {A : Type 0} (xs ys : List A) → ((m : ℕ) → slice_get xs m ≡ slice_get ys m) → xs ≡ ys
same_list [] [] e = refl
same_list [] (y ∷ ys) e = let first = e 0 in cc
same_list (x ∷ xs) [] e = let first = e 0 in cc
same_list (x ∷ xs) (y ∷ ys) e =
    let first = e 0 in
    let same : x ≡ y = cc in
    let rest = same_list xs ys (λ m. e (suc m)) in
    λ i. same i ∷ rest i

pub set-other : {A : Type 0} (xs : List A) (i j : ℕ) (x : A) → j ≢ i → slice_get (set xs i x) j ≡ slice_get xs j
set-other [] i j x differs = refl
set-other (y ∷ xs) zero zero x differs = absurd (differs refl)
set-other (y ∷ xs) zero (suc j) x differs = refl
set-other (y ∷ xs) (suc i) zero x differs = refl
set-other (y ∷ xs) (suc i) (suc j) x differs = set-other xs i j x (λ e. differs (ap suc e))

pub set-this : {A : Type 0} (xs : List A) (i : ℕ) (x : A) → i < length xs → slice_get (set xs i x) i ≡ Some x
set-this xs i x there =
    slice_get-get_or (set xs i x) i x (omega (arith, there, length-set xs i x))
    ∙ ap Some (get_or-set_same xs i x x there)

pub push-below : {A : Type 0} (xs : List A) (x : A) (n : ℕ) → n < length xs
    → slice_get (xs ++ x ∷ []) n ≡ slice_get xs n
push-below [] x n there = absurd (omega (arith, there))
push-below (y ∷ xs) x zero there = refl
push-below (y ∷ xs) x (suc n) there = push-below xs x n (omega (arith, there))

pub push-at : {A : Type 0} (xs : List A) (x : A) → slice_get (xs ++ x ∷ []) (length xs) ≡ Some x
push-at [] x = refl
push-at (y ∷ xs) x = push-at xs x

-- a leg of a sweep by its place
pub booked_from-at : (book : BookParts) (number place : ℕ) (legs : List Routed) (m : ℕ)
    → slice_get (booked_from book number place legs) m ≡ option_map
    (booked_leg book (record { sweep = number; place = place + m })) (slice_get legs m)
booked_from-at book number place [] m = refl
booked_from-at book number place (routed ∷ legs) zero =
    let same : place ≡ place + 0 = omega arith in
    ap (λ p. Some (booked_leg book (record { sweep = number; place = p }) routed)) same
booked_from-at book number place (routed ∷ legs) (suc m) =
    let same : suc place + m ≡ place + suc m = omega arith in
    booked_from-at book number (suc place) legs m
    ∙ ap (λ p. option_map (booked_leg book (record { sweep = number; place = p })) (slice_get legs m)) same

-- one leg changed
module _ (sweeps : List (Vec BookedLeg)) (i j : ℕ) (legs after : Vec BookedLeg) (was now : BookedLeg)
    (sweep_is : slice_get sweeps i ≡ Some legs) (leg_is : slice_get legs.items j ≡ Some was)
    (after_is : after.items ≡ set legs.items j now) where
  pub put-this : kept_leg (record { sweep = suc i; place = suc j }) (set sweeps i after) ≡ Some now
  put-this =
      ap (λ s. option_and_then (λ l. slice_get l.items j) s)
      (set-this sweeps i after (slice_get_within sweeps i legs sweep_is))
      ∙ (ap (λ l. slice_get l j) after_is ∙ set-this legs.items j now (slice_get_within legs.items j was leg_is))

  put-place : (place : ℕ) → (suc j == place) ≡ false → numbered place after.items ≡ numbered place legs.items
  put-place zero differs = refl
  put-place (suc m) differs =
      ap (λ l. slice_get l m) after_is
      ∙ set-other legs.items j m now
      (λ e. (let same : (suc j == suc m) ≡ true = eq-eqb (suc j) (suc m) (ap suc (sym e)) in cc))

  pub put-other : (sweep place : ℕ)
      → is_same_leg (record { sweep = suc i; place = suc j }) (record { sweep = sweep; place = place }) ≡ false
      → kept_leg (record { sweep = sweep; place = place }) (set sweeps i after) ≡ kept_leg
      (record { sweep = sweep; place = place }) sweeps
  put-other zero place differs = refl
  put-other (suc n) place differs =
      elim (cases_eq n i) [
        | inl same ↦
            (let sweep_same : (suc i == suc n) ≡ true = eq-eqb (suc i) (suc n) (ap suc (sym same)) in
            let place_differs : (suc j == place) ≡ false = sym (ap (λ b. b && (suc j == place)) sweep_same) ∙ differs in
            let there = slice_get_within sweeps i legs sweep_is in
            let now_here : slice_get (set sweeps i after) n ≡ Some after = ap (slice_get (set sweeps i after)) same
            ∙ set-this sweeps i after there in
            let was_here : slice_get sweeps n ≡ Some legs = ap (slice_get sweeps) same ∙ sweep_is in
            ap (option_and_then (λ l. numbered place l.items)) now_here
            ∙ (put-place place place_differs ∙ ap (option_and_then (λ l. numbered place l.items)) (sym was_here)))
        | inr other ↦ ap (option_and_then (λ l. numbered place l.items)) (set-other sweeps i n after other)
      ]

  pub put-sum : (f : BookedLeg → ℕ) → sum_over f (set sweeps i after) + f was ≡ sum_over f sweeps + f now
  put-sum f =
      let outer = sum_by-set (λ l. sum_by f l.items) sweeps i after legs (slice_get_within sweeps i legs sweep_is) in
      let inner = sum_by-set f legs.items j now was (slice_get_within legs.items j was leg_is) in
      let sweep_was = ap (λ l. sum_by f l.items) (get_or_from_slice_get sweeps i legs legs sweep_is) in
      let leg_was = ap f (get_or_from_slice_get legs.items j was was leg_is) in
      let items = ap (sum_by f) after_is in
      omega (arith, outer, inner, sweep_was, leg_was, items)

-- a kept leg counts in each sum
pub due_counts : (sweeps : List (Vec BookedLeg)) (i j : ℕ) (legs : Vec BookedLeg) (was : BookedLeg)
    → slice_get sweeps i ≡ Some legs → slice_get legs.items j ≡ Some was → legs_due was ≤ sum_over legs_due sweeps
due_counts sweeps i j legs was sweep_is leg_is =
    let outer = get_or-le-sum_by (λ l. sum_by legs_due l.items) sweeps i legs
    (slice_get_within sweeps i legs sweep_is) in
    let inner = get_or-le-sum_by legs_due legs.items j was (slice_get_within legs.items j was leg_is) in
    let sweep_was = ap (λ l. sum_by legs_due l.items) (get_or_from_slice_get sweeps i legs legs sweep_is) in
    let leg_was = ap legs_due (get_or_from_slice_get legs.items j was was leg_is) in
    omega (arith, outer, inner, sweep_was, leg_was)

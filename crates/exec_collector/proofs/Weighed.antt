-- What the legs of a book weigh, each by its number and its order.
use Rattle.std.proofs.Common.{◌≡◌, ℕ, zero, suc, ◌+◌, ◌≤◌, List, [], ◌∷◌, ◌++◌, length, Some, inl, inr, refl, ap, ◌∙◌, subst, arith}
use Rattle.std.specs.Prelude.{◌==◌, slice_get, sum_by}
use Rattle.std.proofs.lemmas.Bool.{cases_Bool, eqb-true}
use Rattle.std.proofs.lemmas.List.Sums.{sum_by-cons, sum_by-append}
use Rattle.leg.specs.LegId.{LegIdParts}
use Rattle.leg.specs.declared.sweep.Routed.{Routed}
use Rattle.share_ledger.specs.declared.book_entry.BookEntry.{BookEntry}
use Rattle.share_ledger.specs.Entries.{opened, order_of, sweep_shares}
use Rattle.share_ledger.specs.declared.booked_leg.BookedLeg.{BookedLeg}
use Rattle.share_ledger.specs.Book.{BookParts, booked_from, all_booked_from, resolved_shares, venue_resolved}
use Rattle.share_ledger.specs.Kept.{booked_leg, resolved_at}
use Rattle.share_ledger.proofs.VenueSums.{at_venue, at_venue-this}
use Rattle.exec_collector.specs.Resolved.{sum_below}

abbrev pub id_at : ℕ → ℕ → LegIdParts
id_at sweep place = record { sweep = sweep; place = place }

abbrev pub weigh : (LegIdParts → Routed → ℕ) → ℕ → ℕ → List Routed → ℕ
weigh h number place [] = 0
weigh h number place (routed ∷ legs) = h (id_at number place) routed + weigh h number (suc place) legs

abbrev pub weigh_all : (LegIdParts → Routed → ℕ) → ℕ → List (List Routed) → ℕ
weigh_all h number [] = 0
weigh_all h number (legs ∷ sweeps) = weigh h number 1 legs + weigh_all h (suc number) sweeps

pub weigh-le : (h k : LegIdParts → Routed → ℕ) (number place : ℕ) (legs : List Routed)
    → ((n : ℕ) (routed : Routed) → slice_get legs n ≡ Some routed
    → h (id_at number (place + n)) routed ≤ k (id_at number (place + n)) routed)
    → weigh h number place legs ≤ weigh k number place legs
weigh-le h k number place [] each = omega arith
weigh-le h k number place (routed ∷ legs) each =
    let here : place + 0 ≡ place = omega arith in
    let first = subst (λ p. h (id_at number p) routed ≤ k (id_at number p) routed) here (each 0 routed refl) in
    let rest = weigh-le h k number (suc place) legs (λ n r e.
    (let next : place + suc n ≡ suc place + n = omega arith in
    subst (λ p. h (id_at number p) r ≤ k (id_at number p) r) next (each (suc n) r e))) in
    omega (arith, first, rest)

pub weigh_all-le : (h k : LegIdParts → Routed → ℕ) (number : ℕ) (sweeps : List (List Routed))
    → ((m n : ℕ) (legs : List Routed) (routed : Routed) → slice_get sweeps m ≡ Some legs
    → slice_get legs n ≡ Some routed
    → h (id_at (number + m) (1 + n)) routed ≤ k (id_at (number + m) (1 + n)) routed)
    → weigh_all h number sweeps ≤ weigh_all k number sweeps
weigh_all-le h k number [] each = omega arith
weigh_all-le h k number (legs ∷ sweeps) each =
    let here : number + 0 ≡ number = omega arith in
    let first = weigh-le h k number 1 legs (λ n r e. subst
    (λ s. h (id_at s (1 + n)) r ≤ k (id_at s (1 + n)) r) here (each 0 n legs r refl e)) in
    let rest = weigh_all-le h k (suc number) sweeps (λ m n l r d e.
    (let next : number + suc m ≡ suc number + m = omega arith in
    subst (λ s. h (id_at s (1 + n)) r ≤ k (id_at s (1 + n)) r) next (each (suc m) n l r d e))) in
    omega (arith, first, rest)

-- the legs of a book weigh what their orders do
module _ (book : BookParts) (f : BookedLeg → ℕ) where
  weighed : (number place : ℕ) (legs : List Routed)
      → sum_by f (booked_from book number place legs) ≡ weigh (λ id r. f (booked_leg book id r)) number place legs
  weighed number place [] = refl
  weighed number place (routed ∷ legs) =
      sum_by-cons f (booked_leg book (id_at number place) routed) (booked_from book number (suc place) legs)
      ∙ ap (λ n. f (booked_leg book (id_at number place) routed) + n) (weighed number (suc place) legs)

  pub weighed_all : (number : ℕ) (sweeps : List (List Routed))
      → sum_by f (all_booked_from book number sweeps) ≡ weigh_all (λ id r. f (booked_leg book id r)) number sweeps
  weighed_all number [] = refl
  weighed_all number (legs ∷ sweeps) =
      let both = sum_by-append f (booked_from book number 1 legs) (all_booked_from book (suc number) sweeps) in
      let first = weighed number 1 legs in
      let rest = weighed_all (suc number) sweeps in
      omega (arith, both, first, rest)

-- the orders weigh their shares
ordered : (number place : ℕ) (legs : List Routed) → weigh (λ id r. r.terms.shares) number place legs ≡ sweep_shares legs
ordered number place [] = refl
ordered number place (routed ∷ legs) =
    let more = sum_by-cons (λ r. r.terms.shares) routed legs in
    let rest = ordered number (suc place) legs in
    omega (arith, more, rest)

pub ordered_all : (number : ℕ) (sweeps : List (List Routed))
    → weigh_all (λ id r. r.terms.shares) number sweeps ≡ sum_by sweep_shares sweeps
ordered_all number [] = refl
ordered_all number (legs ∷ sweeps) =
    let more = sum_by-cons sweep_shares legs sweeps in
    let first = ordered number 1 legs in
    let rest = ordered_all (suc number) sweeps in
    omega (arith, more, first, rest)

-- a venue's resolved shares, leg by leg
at_venue-sum : (venue : ℕ) (legs : List BookedLeg) → at_venue venue legs ≡ sum_by (resolved_at venue) legs
at_venue-sum venue [] = refl
at_venue-sum venue (leg ∷ legs) =
    let rest = at_venue-sum venue legs in
    let more = sum_by-cons (resolved_at venue) leg legs in
    elim (cases_Bool (leg.venue == venue)) [
      | inl this ↦
          (let one : resolved_at venue leg ≡ resolved_shares leg = rw this refl in
          let sum = at_venue-this venue leg legs this in
          omega (arith, rest, more, one, sum))
      | inr other ↦
          (let one : resolved_at venue leg ≡ 0 = rw other refl in
          let sum : at_venue venue (leg ∷ legs) ≡ at_venue venue legs = rw other refl in
          omega (arith, rest, more, one, sum))
    ]

pub venue_weighed : (book : BookParts) (venue : ℕ)
    → venue_resolved book venue ≡ weigh_all (λ id r. resolved_at venue (booked_leg book id r)) 1 (opened book.entries)
venue_weighed book venue = at_venue-sum venue (all_booked_from book 1 (opened book.entries))
    ∙ weighed_all book (resolved_at venue) 1 (opened book.entries)

-- the order of a leg that was opened
pub in_order : (entries : List BookEntry) (m n : ℕ) (legs : List Routed) (routed : Routed)
    → slice_get (opened entries) m ≡ Some legs → slice_get legs n ≡ Some routed
    → order_of (id_at (1 + m) (1 + n)) entries ≡ Some routed
in_order entries m n legs routed sweep_is order_is =
    let sweep : suc m ≡ 1 + m = omega arith in
    let place : suc n ≡ 1 + n = omega arith in
    let there : order_of (id_at (suc m) (suc n)) entries ≡ Some routed = rw sweep_is order_is in
    subst (λ p. order_of (id_at (1 + m) p) entries ≡ Some routed) place
    (subst (λ s. order_of (id_at s (suc n)) entries ≡ Some routed) sweep there)

-- the venues below a number have resolved no more than all legs
none_below : (n : ℕ) → sum_below (λ venue. at_venue venue []) n ≡ 0
none_below zero = refl
none_below (suc n) = let rest = none_below n in omega (arith, rest)

leg_below : (leg : BookedLeg) (legs : List BookedLeg) (n : ℕ)
    → (n ≤ leg.venue → sum_below (λ v. at_venue v (leg ∷ legs)) n ≡ sum_below (λ v. at_venue v legs) n)
    × (sum_below (λ v. at_venue v (leg ∷ legs)) n ≤ resolved_shares leg + sum_below (λ v. at_venue v legs) n)
leg_below leg legs zero = ((λ low. refl), omega arith)
leg_below leg legs (suc n) =
    let before = leg_below leg legs n in
    elim (cases_Bool (leg.venue == n)) [
      | inl this ↦
          (let here = eqb-true leg.venue n this in
          let sum = at_venue-this n leg legs this in
          let same = before.0 (omega (arith, here)) in
          ((λ low. absurd (omega (arith, low, here))), omega (arith, same, sum)))
      | inr other ↦
          (let sum : at_venue n (leg ∷ legs) ≡ at_venue n legs = rw other refl in
          let low = before.1 in (
            (λ under. (let same = before.0 (omega (arith, under)) in omega (arith, same, sum))),
            omega (arith, low, sum),
          ))
    ]

pub all_below : (legs : List BookedLeg) (n : ℕ)
    → sum_below (λ v. at_venue v legs) n ≤ sum_by resolved_shares legs
all_below [] n = let none = none_below n in omega (arith, none)
all_below (leg ∷ legs) n =
    let one = (leg_below leg legs n).1 in
    let rest = all_below legs n in
    let more = sum_by-cons resolved_shares leg legs in
    omega (arith, one, rest, more)

-- a further sweep
pub weigh_all-push : (h : LegIdParts → Routed → ℕ) (number : ℕ) (sweeps : List (List Routed)) (legs : List Routed)
    → weigh_all h number (sweeps ++ legs ∷ []) ≡ weigh_all h number sweeps + weigh h (number + length sweeps) 1 legs
weigh_all-push h number [] legs =
    let here : number ≡ number + 0 = omega arith in
    let same = ap (λ n. weigh h n 1 legs) here in
    omega (arith, same)
weigh_all-push h number (first ∷ sweeps) legs =
    let rest = weigh_all-push h (suc number) sweeps legs in
    let count : length (first ∷ sweeps) ≡ suc (length sweeps) = refl in
    let next : suc number + length sweeps ≡ number + length (first ∷ sweeps) = omega (arith, count) in
    let same = ap (λ n. weigh h n 1 legs) next in
    omega (arith, rest, same)

-- the same weight of each order
pub weigh_all-same : (h k : LegIdParts → Routed → ℕ) (entries : List BookEntry)
    → ((id : LegIdParts) (routed : Routed) → order_of id entries ≡ Some routed → h id routed ≡ k id routed)
    → weigh_all h 1 (opened entries) ≡ weigh_all k 1 (opened entries)
weigh_all-same h k entries same =
    let below = weigh_all-le h k 1 (opened entries) (λ m n legs routed d e.
    (let here = same (id_at (1 + m) (1 + n)) routed (in_order entries m n legs routed d e) in omega (arith, here))) in
    let above = weigh_all-le k h 1 (opened entries) (λ m n legs routed d e.
    (let here = same (id_at (1 + m) (1 + n)) routed (in_order entries m n legs routed d e) in omega (arith, here))) in
    omega (arith, below, above)

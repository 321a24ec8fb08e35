-- What a call takes from the open shares of its leg is what the resolved shares of the leg's venue gain.
use Rattle.std.proofs.Common.{◌≡◌, ℕ, zero, suc, ◌+◌, ◌≤◌, true, false, List, [], ◌∷◌, ◌++◌, Some, refl, ap, sym, ◌∙◌, arith, inl, inr}
use Rattle.std.specs.Prelude.{◌==◌, slice_get, filter, sum_by}
use Rattle.std.proofs.lemmas.Bool.{cases_Bool, ne_eqb, and_left, and_right}
use Rattle.std.proofs.lemmas.List.Elements.{filter-append}
use Rattle.std.proofs.lemmas.List.Sums.{sum_by-cons, sum_by-append}
use Rattle.leg.specs.LegId.{LegIdParts}
use Rattle.leg.specs.declared.sweep.Routed.{Routed}
use Rattle.share_ledger.specs.Entries.{is_same_leg}
use Rattle.share_ledger.specs.Book.{BookParts, BookedLeg, leg_parts, booked_from, all_booked_from, resolved_shares}

-- the resolved shares of the legs of a venue, among these
abbrev pub at_venue : ℕ → List BookedLeg → ℕ
at_venue venue legs = sum_by resolved_shares (filter (λ leg. leg.venue == venue) legs)

pub at_venue-append : (venue : ℕ) (xs ys : List BookedLeg)
    → at_venue venue (xs ++ ys) ≡ at_venue venue xs + at_venue venue ys
at_venue-append venue xs ys =
    ap (sum_by resolved_shares) (filter-append (λ leg. leg.venue == venue) xs ys)
    ∙ sum_by-append resolved_shares (filter (λ leg. leg.venue == venue) xs) (filter (λ leg. leg.venue == venue) ys)

pub at_venue-this : (venue : ℕ) (leg : BookedLeg) (legs : List BookedLeg) → (leg.venue == venue) ≡ true
    → at_venue venue (leg ∷ legs) ≡ resolved_shares leg + at_venue venue legs
at_venue-this venue leg legs this = rw this (sum_by-cons resolved_shares leg (filter (λ l. l.venue == venue) legs))

at_venue-same : (venue : ℕ) (leg : BookedLeg) (xs ys : List BookedLeg) (n m : ℕ)
    → at_venue venue xs + n ≡ at_venue venue ys + m → at_venue venue (leg ∷ xs) + n ≡ at_venue venue (leg ∷ ys) + m
at_venue-same venue leg xs ys n m e =
    elim (cases_Bool (leg.venue == venue)) [
      | inl this ↦ omega (arith, e, at_venue-this venue leg xs this, at_venue-this venue leg ys this)
      | inr other ↦ rw other e
    ]

-- two books with the same parts of each leg but one
module _ (book after : BookParts) (id : LegIdParts)
    (others : (other : LegIdParts) (shares : ℕ) → is_same_leg id other ≡ false
    → leg_parts other shares after ≡ leg_parts other shares book) where
  missed : (number place : ℕ) (legs : List Routed)
      → ((k : ℕ) → place ≤ k → is_same_leg id (record { sweep = number; place = k }) ≡ false)
      → booked_from after number place legs ≡ booked_from book number place legs
  missed number place [] apart = refl
  missed number place (routed ∷ legs) apart =
      let leg : LegIdParts = record { sweep = number; place = place } in
      let same = others leg routed.terms.shares (apart place (omega arith)) in
      let rest = missed number (suc place) legs (λ k above. apart k (omega (arith, above))) in
      λ i. record { venue = routed.venue; parts = same i } ∷ rest i

  missed_all : (number : ℕ) (sweeps : List (List Routed))
      → ((n k : ℕ) → number ≤ n → is_same_leg id (record { sweep = n; place = k }) ≡ false)
      → all_booked_from after number sweeps ≡ all_booked_from book number sweeps
  missed_all number [] apart = refl
  missed_all number (legs ∷ sweeps) apart =
      let first = missed number 1 legs (λ k above. apart number k (omega arith)) in
      let rest = missed_all (suc number) sweeps (λ n k above. apart n k (omega (arith, above))) in
      λ i. first i ++ rest i

  module _ (venue : ℕ) (routed : Routed) (of_venue : (routed.venue == venue) ≡ true) where
    hit : (number place n : ℕ) (legs : List Routed) → id.sweep ≡ number → id.place ≡ place + n
        → slice_get legs n ≡ Some routed
        → at_venue venue (booked_from after number place legs) + resolved_shares
        (record { venue = routed.venue; parts = leg_parts id routed.terms.shares book })
        ≡ at_venue venue (booked_from book number place legs) + resolved_shares
        (record { venue = routed.venue; parts = leg_parts id routed.terms.shares after })
    hit number place n [] sweep_is place_is found = cc
    hit number place zero (first ∷ legs) sweep_is place_is found =
        let same : first ≡ routed = cc in
        let here : place ≡ id.place = omega (arith, place_is) in
        let rest = missed number (suc place) legs
        (λ k above. and_right (id.sweep == number) (id.place == k)
        (ne_eqb id.place k (λ e. absurd (omega (arith, e, here, above))))) in
        let leg_is : (let l : LegIdParts = record { sweep = number; place = place } in l) ≡ id = λ i. record
        { sweep = sym sweep_is i; place = here i } in
        let was : BookedLeg = record { venue = routed.venue; parts = leg_parts id routed.terms.shares book } in
        let is : BookedLeg = record { venue = routed.venue; parts = leg_parts id routed.terms.shares after } in
        let behind = booked_from book number (suc place) legs in
        let now : booked_from after number place
        (first ∷ legs) ≡ is ∷ behind = λ i. record
        { venue = (same i).venue; parts = leg_parts (leg_is i) (same i).terms.shares after } ∷ rest i in
        let old : booked_from book number place
        (first ∷ legs) ≡ was ∷ behind = λ i. record
        { venue = (same i).venue; parts = leg_parts (leg_is i) (same i).terms.shares book } ∷ behind in
        let total_now = ap (at_venue venue) now ∙ at_venue-this venue is behind of_venue in
        let total_old = ap (at_venue venue) old ∙ at_venue-this venue was behind of_venue in
        omega (arith, total_now, total_old)
    hit number place (suc n) (first ∷ legs) sweep_is place_is found =
        let leg : LegIdParts = record { sweep = number; place = place } in
        let apart : is_same_leg id leg ≡ false = and_right (id.sweep == number) (id.place == place)
        (ne_eqb id.place place (λ e. absurd (omega (arith, e, place_is)))) in
        let kept = others leg first.terms.shares apart in
        let is : BookedLeg = record { venue = first.venue; parts = leg_parts leg first.terms.shares after } in
        let was : BookedLeg = record { venue = first.venue; parts = leg_parts leg first.terms.shares book } in
        let same : is ≡ was = λ i. record { venue = first.venue; parts = kept i } in
        let next : id.place ≡ suc place + n = omega (arith, place_is) in
        let tail = hit number (suc place) n legs sweep_is next found in
        let old = resolved_shares (record { venue = routed.venue; parts = leg_parts id routed.terms.shares book }) in
        let new = resolved_shares (record { venue = routed.venue; parts = leg_parts id routed.terms.shares after }) in
        ap (λ l. at_venue venue (l ∷ booked_from after number (suc place) legs) + old) same
        ∙ at_venue-same venue was (booked_from after number (suc place) legs)
        (booked_from book number (suc place) legs) old new tail

    pub hit_all : (number m n : ℕ) (sweeps : List (List Routed)) (legs : List Routed) → id.sweep ≡ number + m
        → slice_get sweeps m ≡ Some legs → id.place ≡ 1 + n → slice_get legs n ≡ Some routed
        → at_venue venue (all_booked_from after number sweeps) + resolved_shares
        (record { venue = routed.venue; parts = leg_parts id routed.terms.shares book })
        ≡ at_venue venue (all_booked_from book number sweeps) + resolved_shares
        (record { venue = routed.venue; parts = leg_parts id routed.terms.shares after })
    hit_all number m n [] legs sweep_is opened_as place_is found = cc
    hit_all number zero n (first ∷ sweeps) legs sweep_is opened_as place_is found =
        let same : legs ≡ first = cc in
        let here : id.sweep ≡ number = omega (arith, sweep_is) in
        let found_here : slice_get first n ≡ Some routed = ap (λ l. slice_get l n) (sym same) ∙ found in
        let this = hit number 1 n first here place_is found_here in
        let rest = missed_all (suc number) sweeps
        (λ k l above. and_left (id.sweep == k) (id.place == l)
        (ne_eqb id.sweep k (λ e. absurd (omega (arith, e, here, above))))) in
        let split_now = at_venue-append venue (booked_from after number 1 first)
        (all_booked_from after (suc number) sweeps) in
        let split_old = at_venue-append venue (booked_from book number 1 first)
        (all_booked_from book (suc number) sweeps) in
        omega (arith, this, split_now, split_old, ap (at_venue venue) rest)
    hit_all number (suc m) n (first ∷ sweeps) legs sweep_is opened_as place_is found =
        let next : id.sweep ≡ suc number + m = omega (arith, sweep_is) in
        let tail = hit_all (suc number) m n sweeps legs next opened_as place_is found in
        let this = missed number 1 first
        (λ k above. and_left (id.sweep == number) (id.place == k)
        (ne_eqb id.sweep number (λ e. absurd (omega (arith, e, sweep_is))))) in
        let split_now = at_venue-append venue (booked_from after number 1 first)
        (all_booked_from after (suc number) sweeps) in
        let split_old = at_venue-append venue (booked_from book number 1 first)
        (all_booked_from book (suc number) sweeps) in
        omega (arith, tail, split_now, split_old, ap (at_venue venue) this)

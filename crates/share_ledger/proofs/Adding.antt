-- In a book that the calls made, the parts of each leg, and the totals of each sweep, add up.
use Rattle.std.proofs.Common.{◌≡◌, ℕ, suc, ◌+◌, List, [], ◌∷◌, ◌++◌, length, Some, refl, ap, ◌∙◌, subst, arith}
use Rattle.std.specs.Prelude.{slice_get, sum_by, option_and_then}
use Rattle.std.proofs.lemmas.List.{append_assoc, length_push}
use Rattle.std.proofs.lemmas.List.Sums.{sum_by-cons}
use Rattle.leg.specs.LegId.{LegIdParts}
use Rattle.leg.specs.Numbered.{numbered}
use Rattle.leg.specs.Split.{leg_shares}
use Rattle.leg.specs.declared.sweep.Routed.{Routed}
use Rattle.share_ledger.specs.declared.book_entry.BookEntry.{BookEntry}
use Rattle.share_ledger.specs.Entries.{sweep_shares, opened, order_of, is_withdrawn}
use Rattle.share_ledger.specs.Book.{BookParts, BookedLeg, new_book, moves_on, leg_parts, booked_from, totals_of, totals, totals_shares, replay}
use Rattle.share_ledger.proofs.ShareSums.{leg_shares-parts_of}
use Rattle.share_ledger.proofs.Sound.{IsSound, sound-new, sound-replay}

pub leg_adds_up : (book : BookParts) (id : LegIdParts) (routed : Routed) → IsSound book
    → order_of id book.entries ≡ Some routed → leg_shares (leg_parts id routed.terms.shares book) ≡ routed.terms.shares
leg_adds_up book id routed sound found =
    leg_shares-parts_of routed.terms.shares (is_withdrawn id book.entries) (moves_on id book)
    (sound.within id routed found)

pub parts_add_up : (venues : ℕ) (entries : List BookEntry) (id : LegIdParts) (routed : Routed)
    → order_of id (replay (new_book venues) entries).entries ≡ Some routed
    → leg_shares (leg_parts id routed.terms.shares (replay (new_book venues) entries)) ≡ routed.terms.shares
parts_add_up venues entries id routed found =
    leg_adds_up (replay (new_book venues) entries) id routed
    (sound-replay (new_book venues) entries (sound-new venues)) found

-- the five sums are the sum of all parts
parts_sum : (legs : List BookedLeg)
    → (totals_of legs).filled + (totals_of legs).busted + (totals_of legs).cancelled + (totals_of legs).withdrawn +
    (totals_of legs).still_open ≡ sum_by (λ leg. leg_shares leg.parts) legs
parts_sum [] = refl
parts_sum (leg ∷ legs) =
    omega (
      arith,
      parts_sum legs,
      sum_by-cons (λ l. l.parts.filled) leg legs,
      sum_by-cons (λ l. l.parts.busted) leg legs,
      sum_by-cons (λ l. l.parts.cancelled) leg legs,
      sum_by-cons (λ l. l.parts.withdrawn) leg legs,
      sum_by-cons (λ l. l.parts.still_open) leg legs,
      sum_by-cons (λ l. leg_shares l.parts) leg legs,
    )

slice_get-behind : {A : Type 0} (front : List A) (x : A) (rest : List A) (n : ℕ) → n ≡ length front
    → slice_get (front ++ x ∷ rest) n ≡ Some x
slice_get-behind [] x rest n e = rw e refl
slice_get-behind (y ∷ front) x rest n e = rw e (slice_get-behind front x rest (length front) refl)

module _ (book : BookParts) (sound : IsSound book) (number : ℕ) (sweep : List Routed)
    (opened_as : numbered number (opened book.entries) ≡ Some sweep) where
  -- the legs behind the first n of the sweep
  booked_sum : (n : ℕ) (front legs : List Routed) → n ≡ length front → front ++ legs ≡ sweep
      → sum_by (λ leg. leg_shares leg.parts) (booked_from book number (suc n) legs) ≡ sweep_shares legs
  booked_sum n front [] count whole = refl
  booked_sum n front (routed ∷ legs) count whole =
      let id : LegIdParts = record { sweep = number; place = suc n } in
      let here : slice_get sweep n ≡ Some routed = subst (λ l. slice_get l n ≡ Some routed) whole
      (slice_get-behind front routed legs n count) in
      let found : order_of id book.entries ≡ Some routed = ap (option_and_then (numbered (suc n))) opened_as ∙ here in
      let this = leg_adds_up book id routed sound found in
      let counted : suc n ≡ length (front ++ routed ∷ []) = omega (arith, length_push front routed, count) in
      let joined : (front ++ routed ∷ []) ++ legs ≡ sweep = append_assoc front (routed ∷ []) legs ∙ whole in
      let others = booked_sum (suc n) (front ++ routed ∷ []) legs counted joined in
      let first : BookedLeg = record { venue = routed.venue; parts = leg_parts id routed.terms.shares book } in
      omega (
        arith,
        this,
        others,
        sum_by-cons (λ l. leg_shares l.parts) first (booked_from book number (suc (suc n)) legs),
        sum_by-cons (λ r. r.terms.shares) routed legs,
      )

  totals_add_up_of : totals_shares (totals book number) ≡ Some (sweep_shares sweep)
  totals_add_up_of =
      rw opened_as (ap Some (parts_sum (booked_from book number 1 sweep) ∙ booked_sum 0 [] sweep refl refl))

pub totals_add_up : (venues : ℕ) (entries : List BookEntry) (number : ℕ) (legs : List Routed)
    → numbered number (opened (replay (new_book venues) entries).entries) ≡ Some legs
    → totals_shares (totals (replay (new_book venues) entries) number) ≡ Some (sweep_shares legs)
totals_add_up venues entries number legs opened_as =
    totals_add_up_of (replay (new_book venues) entries)
    (sound-replay (new_book venues) entries (sound-new venues)) number legs opened_as

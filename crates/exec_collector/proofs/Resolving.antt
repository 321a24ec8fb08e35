-- A call that changes the parts of one leg changes what the leg's venue has resolved by as much, and no other venue's.
use Rattle.std.proofs.Common.{◌≡◌, ◌≢◌, ℕ, zero, suc, ◌+◌, ◌<◌, ◌≤◌, false, List, [], ◌∷◌, length, Option, Some, None, inl, inr, refl, ap, sym, ◌∙◌, subst, arith}
use Rattle.std.specs.Prelude.{◌==◌, slice_get, option_and_then}
use Rattle.std.proofs.lemmas.Bool.{cases_Bool, eq-eqb, ne_eqb}
use Rattle.std.proofs.lemmas.Option.{slice_get_past}
use Rattle.leg.specs.LegId.{LegIdParts}
use Rattle.leg.specs.Numbered.{numbered}
use Rattle.leg.specs.Split.{SplitParts}
use Rattle.leg.specs.declared.sweep.Routed.{Routed}
use Rattle.share_ledger.specs.declared.booked_leg.BookedLeg.{BookedLeg}
use Rattle.share_ledger.specs.declared.book_entry.BookEntry.TheVariants.{Opened}
use Rattle.share_ledger.specs.Entries.{opened, order_of, is_same_leg}
use Rattle.share_ledger.specs.Book.{BookParts, leg_parts, all_booked_from, resolved_of, venue_resolved, written, open_sweep}
use Rattle.share_ledger.specs.Kept.{booked_leg, resolved_at}
use Rattle.share_ledger.proofs.OneMore.{is_same_leg-true, opened-append}
use Rattle.share_ledger.proofs.VenueSums.{at_venue, hit_all}
use Rattle.share_ledger.proofs.Sound.{IsSound}
use Rattle.share_ledger.proofs.KeptOpened.{parts_new}
use Rattle.share_ledger.proofs.Outcomes.{open_outcome, others-open_sweep}
use Rattle.exec_collector.specs.Resolved.{sum_below}
use Rattle.exec_collector.proofs.Below.{below-one, below-same}
use Rattle.exec_collector.proofs.Weighed.{id_at, weigh, weigh_all, weigh-le, weigh_all-push, weigh_all-same, venue_weighed}

numbered_at : {A : Type 0} (n : ℕ) (xs : List A) (x : A) → numbered n xs ≡ Some x
    → (m : ℕ) × (n ≡ 1 + m) × (slice_get xs m ≡ Some x)
numbered_at zero xs x e = cc
numbered_at (suc m) xs x e = (m, omega arith, e)

found_in : {A B : Type 0} (f : A → Option B) (o : Option A) (x : B) → option_and_then f o ≡ Some x
    → (a : A) × (o ≡ Some a) × (f a ≡ Some x)
found_in f None x e = cc
found_in f (Some a) x e = (a, refl, e)

module _ (book after : BookParts) (id : LegIdParts) (order : Routed) (found : order_of id book.entries ≡ Some order)
    (same : opened after.entries ≡ opened book.entries)
    (others : (other : LegIdParts) (shares : ℕ) → is_same_leg id other ≡ false
    → leg_parts other shares after ≡ leg_parts other shares book) where
  pub this_venue : venue_resolved after order.venue + resolved_of (leg_parts id order.terms.shares book)
      ≡ venue_resolved book order.venue + resolved_of (leg_parts id order.terms.shares after)
  this_venue =
      let sweep = found_in (numbered id.place) (numbered id.sweep (opened book.entries)) order found in
      let at_sweep = numbered_at id.sweep (opened book.entries) sweep.0 sweep.1 in
      let at_place = numbered_at id.place sweep.0 order sweep.2 in
      let hit = hit_all book after id others order.venue order (eq-eqb order.venue order.venue refl) 1 at_sweep.0
      at_place.0 (opened book.entries) sweep.0 at_sweep.1 at_sweep.2 at_place.1 at_place.2 in
      ap (λ sweeps. at_venue order.venue (all_booked_from after 1 sweeps)
      + resolved_of (leg_parts id order.terms.shares book)) same ∙ hit

  elsewhere : (venue : ℕ) → venue ≢ order.venue → (other : LegIdParts) (routed : Routed)
      → order_of other book.entries ≡ Some routed
      → resolved_at venue (booked_leg after other routed) ≡ resolved_at venue (booked_leg book other routed)
  elsewhere venue apart other routed there =
      elim (cases_Bool (is_same_leg id other)) [
        | inl is_it ↦
            (let it = is_same_leg-true id other is_it in
            let again : order_of id book.entries ≡ Some routed = ap (λ l. order_of l book.entries) it ∙ there in
            let one : routed ≡ order = (let both = sym again ∙ found in cc) in
            let not_here : (routed.venue == venue) ≡ false = ne_eqb routed.venue venue
            (λ e. absurd (apart (sym e ∙ ap (λ r. r.venue) one))) in
            let now : resolved_at venue (booked_leg after other routed) ≡ 0 = rw not_here refl in
            let old : resolved_at venue (booked_leg book other routed) ≡ 0 = rw not_here refl in
            now ∙ sym old)
        | inr differs ↦
            (let parts = others other routed.terms.shares differs in
            ap (λ p. resolved_at venue (let leg : BookedLeg = record { venue = routed.venue; parts = p } in leg)) parts)
      ]

  pub other_venue : (venue : ℕ) → venue ≢ order.venue → venue_resolved after venue ≡ venue_resolved book venue
  other_venue venue apart =
      venue_weighed after venue
      ∙ ap (weigh_all (λ l r. resolved_at venue (booked_leg after l r)) 1) same
      ∙ weigh_all-same (λ l r. resolved_at venue (booked_leg after l r))
      (λ l r. resolved_at venue (booked_leg book l r))
      book.entries (elsewhere venue apart)
      ∙ sym (venue_weighed book venue)

  pub all_venues : (n : ℕ) → order.venue < n
      → sum_below (venue_resolved after) n + resolved_of (leg_parts id order.terms.shares book)
      ≡ sum_below (venue_resolved book) n + resolved_of (leg_parts id order.terms.shares after)
  all_venues n there = below-one (venue_resolved book) (venue_resolved after) n order.venue
      (resolved_of (leg_parts id order.terms.shares book)) (resolved_of (leg_parts id order.terms.shares after))
      there other_venue this_venue

at_most : (venue own : ℕ) (parts : SplitParts) → resolved_of parts ≡ 0
    → resolved_at venue (let leg : BookedLeg = record { venue = own; parts = parts } in leg) ≤ 0
at_most venue own parts none =
    elim (cases_Bool (own == venue)) [
      | inl this ↦ rw this (omega (arith, none))
      | inr other ↦ rw other (omega arith)
    ]

weigh_none : (number place : ℕ) (legs : List Routed) → weigh (λ l r. 0) number place legs ≡ 0
weigh_none number place [] = refl
weigh_none number place (routed ∷ legs) = let rest = weigh_none number (suc place) legs in omega (arith, rest)

-- a sweep that is opened resolves nothing
module _ (book : BookParts) (sound : IsSound book) (number : ℕ) (legs : List Routed) where
  past : (n : ℕ) → order_of (id_at (1 + length (opened book.entries)) n) book.entries ≡ None
  past n =
      let next : suc (length (opened book.entries)) ≡ 1 + length (opened book.entries) = omega arith in
      let none : order_of (id_at (suc (length (opened book.entries))) n) book.entries ≡ None
      = rw (slice_get_past (opened book.entries) (length (opened book.entries)) (omega arith)) refl in
      subst (λ s. order_of (id_at s n) book.entries ≡ None) next none

  opened_venue : (venue : ℕ) → (open_sweep book number legs).1 ≡ written (Opened (record { legs = legs })) book
      → venue_resolved (open_sweep book number legs).1 venue ≡ venue_resolved book venue
  opened_venue venue writes =
      let after = (open_sweep book number legs).1 in
      let now : LegIdParts → Routed → ℕ = λ l r. resolved_at venue (booked_leg after l r) in
      let old : LegIdParts → Routed → ℕ = λ l r. resolved_at venue (booked_leg book l r) in
      let parts : (id : LegIdParts) (r : Routed) → now id r ≡ old id r = λ id r. ap
      (λ p. resolved_at venue (let leg : BookedLeg = record { venue = r.venue; parts = p } in leg))
      (others-open_sweep book number legs id r.terms.shares) in
      let list = ap (λ b. opened b.entries) writes
      ∙ opened-append book.entries (Opened (record { legs = legs }) ∷ []) in
      let pushed = weigh_all-push now 1 (opened book.entries) legs in
      let same = weigh_all-same now old book.entries (λ id r e. parts id r) in
      let none = weigh-le now (λ l r. 0) (1 + length (opened book.entries)) 1 legs (λ n r e.
      (let id = id_at (1 + length (opened book.entries)) (1 + n) in
      let open_parts = others-open_sweep book number legs id r.terms.shares
      ∙ parts_new book sound id r.terms.shares (past (1 + n)) in
      let zero_parts : resolved_of (leg_parts id r.terms.shares after) ≡ 0 = ap resolved_of open_parts in
      at_most venue r.venue (leg_parts id r.terms.shares after) zero_parts)) in
      let zeros = weigh_none (1 + length (opened book.entries)) 1 legs in
      let left = venue_weighed after venue ∙ ap (weigh_all now 1) list in
      let right = venue_weighed book venue in
      omega (arith, left, pushed, same, none, zeros, right)

  pub opened_all : (n : ℕ)
      → sum_below (venue_resolved (open_sweep book number legs).1) n ≡ sum_below (venue_resolved book) n
  opened_all n =
      elim (open_outcome book number legs) [
        | inl writes ↦ below-same (venue_resolved book) (venue_resolved (open_sweep book number legs).1) n
            (λ v low. opened_venue v writes)
        | inr same ↦ ap (λ b. sum_below (venue_resolved b) n) same
      ]

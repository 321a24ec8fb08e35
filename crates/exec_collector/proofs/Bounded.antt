-- In a book that its history leads to, each leg is for one of its venues, and no more than 10^18 shares were opened.
use Rattle.std.proofs.Common.{◌≡◌, ℕ, zero, suc, ◌+◌, ◌<◌, ◌≤◌, Bool, true, false, List, [], ◌∷◌, ◌++◌, length, Some, None, Ok, Err, inl, inr, refl, ap, sym, ◌∙◌, subst, arith, if◌then◌else◌}
use Rattle.std.specs.Prelude.{◌==◌, ◌&&◌, slice_get, sum_by, option_and_then, nat_le, nat_lt}
use Rattle.std.specs.List.{list_all}
use Rattle.std.proofs.lemmas.Bool.{and_parts, ltb-true, leb-true}
use Rattle.std.proofs.lemmas.List.Sums.{sum_by_push}
use Rattle.leg.specs.LegId.{LegIdParts}
use Rattle.leg.specs.Numbered.{numbered}
use Rattle.leg.specs.declared.sweep.Routed.{Routed}
use Rattle.share_ledger.specs.declared.book_entry.BookEntry.{BookEntry}
use Rattle.share_ledger.specs.declared.book_entry.BookEntry.TheVariants.{Opened, Withdrawn, Moved}
use Rattle.share_ledger.specs.declared.book_fault.BookFault.TheVariants.{NotNext, Unfit}
use Rattle.share_ledger.specs.Entries.{sweep_shares, opened, order_of}
use Rattle.share_ledger.specs.Book.{BookParts, BookAnswer, new_book, written, resolved_of, resolved_shares, leg_parts, all_booked_from, venue_resolved, opened_shares, is_fit, next_sweep, again, replay}
use Rattle.share_ledger.proofs.OneMore.{opened-append, opened-withdrawn, opened-moved}
use Rattle.share_ledger.proofs.Outcomes.{withdraw_outcome, apply_outcome}
use Rattle.share_ledger.proofs.Sound.{IsSound, numbered-nil, sound-new, sound-replay}
use Rattle.share_ledger.proofs.Adding.{leg_adds_up}
use Rattle.exec_collector.specs.Resolved.{Replays, sum_below}
use Rattle.exec_collector.proofs.Weighed.{id_at, in_order, weigh_all-le, weighed_all, ordered_all, all_below}

pub record IsBounded (book : BookParts) : Type 0 where
  pub few : opened_shares book ≤ 1000000000000000000
  pub known : (id : LegIdParts) (routed : Routed) → order_of id book.entries ≡ Some routed → routed.venue < book.venues

bounded-new : (venues : ℕ) → IsBounded (new_book venues)
bounded-new venues =
    record {
      few = omega arith;
      known = λ id routed e. (let none : order_of id [] ≡ None
          = rw (numbered-nil {A = List Routed} id.sweep) refl in cc);
    }

known_in : (venues : ℕ) (legs : List Routed) (place : ℕ) (routed : Routed)
    → list_all (λ r. nat_lt r.venue venues) legs ≡ true → slice_get legs place ≡ Some routed → routed.venue < venues
known_in venues [] place routed all e = cc
known_in venues (first ∷ legs) zero routed all e =
    let both = and_parts (nat_lt first.venue venues) (list_all (λ r. nat_lt r.venue venues) legs) all in
    let same : first ≡ routed = cc in
    let here = ltb-true first.venue venues both.0 in
    let venue = ap (λ r. r.venue) same in
    omega (arith, here, venue)
known_in venues (first ∷ legs) (suc place) routed all e =
    let both = and_parts (nat_lt first.venue venues) (list_all (λ r. nat_lt r.venue venues) legs) all in
    known_in venues legs place routed both.1 e

known_at : (venues : ℕ) (legs : List Routed) (place : ℕ) (routed : Routed)
    → list_all (λ r. nat_lt r.venue venues) legs ≡ true → numbered place legs ≡ Some routed → routed.venue < venues
known_at venues legs zero routed all e = cc
known_at venues legs (suc place) routed all e = known_in venues legs place routed all e

-- an order is one of the old sweeps', or of the new one's
known_push : (venues : ℕ) (sweeps : List (List Routed)) (legs : List Routed) (m place : ℕ) (routed : Routed)
    → list_all (λ r. nat_lt r.venue venues) legs ≡ true
    → ((k : ℕ) → option_and_then (numbered place) (slice_get sweeps k) ≡ Some routed → routed.venue < venues)
    → option_and_then (numbered place) (slice_get (sweeps ++ legs ∷ []) m) ≡ Some routed → routed.venue < venues
known_push venues [] legs zero place routed all old e = known_at venues legs place routed all e
known_push venues [] legs (suc m) place routed all old e = cc
known_push venues (first ∷ sweeps) legs zero place routed all old e = old 0 e
known_push venues (first ∷ sweeps) legs (suc m) place routed all old e =
    known_push venues sweeps legs m place routed all (λ k. old (suc k)) e

known_opened : (venues : ℕ) (sweeps : List (List Routed)) (legs : List Routed) (number place : ℕ) (routed : Routed)
    → list_all (λ r. nat_lt r.venue venues) legs ≡ true
    → ((k : ℕ) → option_and_then (numbered place) (slice_get sweeps k) ≡ Some routed → routed.venue < venues)
    → option_and_then (numbered place) (numbered number (sweeps ++ legs ∷ [])) ≡ Some routed → routed.venue < venues
known_opened venues sweeps legs zero place routed all old e = cc
known_opened venues sweeps legs (suc m) place routed all old e =
    known_push venues sweeps legs m place routed all old e

bounded-opened : (book : BookParts) (legs : List Routed) → is_fit book legs ≡ true → IsBounded book
    → IsBounded (written (Opened (record { legs = legs })) book)
bounded-opened book legs fit bounded =
    let third = and_parts
    (nat_le 1 (length legs) && nat_le (length legs) 32 && list_all (λ routed. nat_lt routed.venue book.venues) legs)
    (nat_le (opened_shares book + sweep_shares legs) 1000000000000000000) fit in
    let second = and_parts (nat_le 1 (length legs) && nat_le (length legs) 32)
    (list_all (λ routed. nat_lt routed.venue book.venues) legs) third.0 in
    let more = opened-append book.entries (Opened (record { legs = legs }) ∷ []) in
    let low = leb-true (opened_shares book + sweep_shares legs) 1000000000000000000 third.1 in
    let sum = ap (sum_by sweep_shares) more ∙ sum_by_push sweep_shares (opened book.entries) legs in
    let old = bounded.known in
    record {
      few = omega (arith, low, sum);
      known = λ id routed e. known_opened book.venues (opened book.entries) legs id.sweep id.place routed second.1
          (λ k f. old (id_at (suc k) id.place) routed f)
          (ap (λ sweeps. option_and_then (numbered id.place) (numbered id.sweep sweeps)) (sym more) ∙ e);
    }

-- an entry that opens no sweep
bounded-same : (book after : BookParts) → opened after.entries ≡ opened book.entries → after.venues ≡ book.venues
    → IsBounded book → IsBounded after
bounded-same book after same venues bounded =
    let few = bounded.few in
    let known = bounded.known in
    let sum = ap (sum_by sweep_shares) same in
    record {
      few = omega (arith, few, sum);
      known = λ id routed e. (let low = known id routed
          (ap (λ sweeps. option_and_then (numbered id.place) (numbered id.sweep sweeps)) (sym same) ∙ e) in
          omega (arith, low, venues));
    }

bounded-open_step : (is_next fits : Bool) (book : BookParts) (legs : List Routed)
    → (fits ≡ true → IsBounded (written (Opened (record { legs = legs })) book)) → IsBounded book
    → (let r : BookAnswer = if is_next
    then (if fits then (Ok tt, written (Opened (record { legs = legs })) book) else (Err Unfit, book))
    else (Err NotNext, book) in IsBounded r.1)
bounded-open_step true true book legs new old = new refl
bounded-open_step true false book legs new old = old
bounded-open_step false fits book legs new old = old

bounded-again : (book : BookParts) (entry : BookEntry) → IsBounded book → IsBounded (again book entry)
bounded-again book (Opened sweep) bounded =
    bounded-open_step (next_sweep book == next_sweep book) (is_fit book sweep.legs) book sweep.legs
    (λ fit. bounded-opened book sweep.legs fit bounded) bounded
bounded-again book (Withdrawn id) bounded =
    elim (withdraw_outcome book id) [
      | inl writes ↦ subst IsBounded (sym writes)
          (bounded-same book _ (opened-withdrawn book.entries id) refl bounded)
      | inr same ↦ subst IsBounded (sym same) bounded
    ]
bounded-again book (Moved venue note) bounded =
    elim (apply_outcome book venue note) [
      | inl writes ↦ subst IsBounded (sym writes)
          (bounded-same book _ (opened-moved book.entries venue note) refl bounded)
      | inr same ↦ subst IsBounded (sym same) bounded
    ]

bounded-replay : (book : BookParts) (entries : List BookEntry) → IsBounded book → IsBounded (replay book entries)
bounded-replay book [] bounded = bounded
bounded-replay book (entry ∷ entries) bounded = bounded-replay (again book entry) entries
    (bounded-again book entry bounded)

pub bounded_book : (book : BookParts) → Replays book → IsBounded book
bounded_book book replays = subst IsBounded replays
    (bounded-replay (new_book book.venues) book.entries (bounded-new book.venues))

pub sound_book : (book : BookParts) → Replays book → IsSound book
sound_book book replays = subst IsSound replays
    (sound-replay (new_book book.venues) book.entries (sound-new book.venues))

-- so what some venues have resolved is at most 10^18
pub few_below : (book : BookParts) → Replays book → (n : ℕ)
    → sum_below (venue_resolved book) n ≤ 1000000000000000000
few_below book replays n =
    let sweeps = opened book.entries in
    let sound = sound_book book replays in
    let below = all_below (all_booked_from book 1 sweeps) n in
    let weighed = weighed_all book resolved_shares 1 sweeps in
    let within = weigh_all-le (λ id r. resolved_of (leg_parts id r.terms.shares book)) (λ id r. r.terms.shares) 1 sweeps
    (λ m k legs routed d e. (let found = in_order book.entries m k legs routed d e in
    let adds = leg_adds_up book (id_at (1 + m) (1 + k)) routed sound found in omega (arith, adds))) in
    let shares = ordered_all 1 sweeps in
    let few = (bounded_book book replays).few in
    omega (arith, below, weighed, within, shares, few)

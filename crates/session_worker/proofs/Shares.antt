-- The open shares of a book, sweep by sweep.
use Rattle.std.proofs.Common.{◌≡◌, ℕ, zero, suc, ◌+◌, ◌≤◌, List, [], ◌∷◌, length, Option, Some, None, refl, sym, ap, ◌∙◌, add-one, arith}
use Rattle.std.specs.Prelude.{slice_get, sum_by, option_map}
use Rattle.std.proofs.lemmas.List.Sums.{sum_by-append}
use Rattle.leg.specs.declared.sweep.Routed.{Routed}
use Rattle.leg.specs.declared.totals.Totals.{Totals}
use Rattle.share_ledger.specs.declared.book_entry.BookEntry.{BookEntry}
use Rattle.share_ledger.specs.declared.book_entry.BookEntry.TheVariants.{Opened, Withdrawn, Moved}
use Rattle.share_ledger.specs.declared.booked_leg.BookedLeg.{BookedLeg}
use Rattle.share_ledger.specs.Entries.{opened}
use Rattle.share_ledger.specs.Book.{BookParts, leg_parts, booked_from, all_booked_from, totals_of, totals}
use Rattle.share_ledger.proofs.Adding.{leg_adds_up}
use Rattle.exec_collector.specs.Resolved.{Replays}
use Rattle.exec_collector.proofs.Weighed.{id_at, in_order, weigh_all-le, weighed_all, ordered_all}
use Rattle.exec_collector.proofs.Bounded.{bounded_book, sound_book}
use Rattle.session_worker.specs.Audit.{still_open}

abbrev pub open_in : List BookedLeg → ℕ
open_in legs = sum_by (λ (leg : BookedLeg). leg.parts.still_open) legs

-- the open shares of the first so many sweeps
abbrev pub first_open : BookParts → ℕ → ℕ → List (List Routed) → ℕ
first_open book number zero sweeps = 0
first_open book number (suc count) [] = 0
first_open book number (suc count) (legs ∷ sweeps) =
    open_in (booked_from book number 1 legs) + first_open book (suc number) count sweeps

first_more : (book : BookParts) (number count : ℕ) (sweeps : List (List Routed)) (legs : List Routed)
    → slice_get sweeps count ≡ Some legs
    → first_open book number (suc count) sweeps
    ≡ first_open book number count sweeps + open_in (booked_from book (number + count) 1 legs)
first_more book number zero [] legs e = absurd cc
first_more book number zero (first ∷ sweeps) legs e =
    let same : first ≡ legs = cc in
    let at : number + 0 ≡ number = omega arith in
    let here : open_in (booked_from book number 1 first) ≡ open_in (booked_from book (number + 0) 1 legs) =
    rw at (ap (λ (l : List Routed). open_in (booked_from book number 1 l)) same) in
    omega (arith, here)
first_more book number (suc count) [] legs e = absurd cc
first_more book number (suc count) (first ∷ sweeps) legs e =
    let rest = first_more book (suc number) count sweeps legs e in
    let at : suc number + count ≡ number + suc count = omega arith in
    let here : open_in (booked_from book (suc number + count) 1 legs) ≡ open_in (booked_from book (number + suc count) 1 legs) =
    ap (λ n. open_in (booked_from book n 1 legs)) at in
    omega (arith, rest, here)

first_all : (book : BookParts) (number count : ℕ) (sweeps : List (List Routed)) → length sweeps ≤ count
    → first_open book number count sweeps ≡ open_in (all_booked_from book number sweeps)
first_all book number zero [] few = refl
first_all book number zero (legs ∷ sweeps) few = absurd (omega arith)
first_all book number (suc count) [] few = refl
first_all book number (suc count) (legs ∷ sweeps) few =
    let rest = first_all book (suc number) count sweeps (omega arith) in
    let both = sum_by-append (λ (leg : BookedLeg). leg.parts.still_open) (booked_from book number 1 legs)
    (all_booked_from book (suc number) sweeps) in
    omega (arith, rest, both)

first-le : (book : BookParts) (number count : ℕ) (sweeps : List (List Routed))
    → first_open book number count sweeps ≤ open_in (all_booked_from book number sweeps)
first-le book number zero sweeps = omega arith
first-le book number (suc count) [] = omega arith
first-le book number (suc count) (legs ∷ sweeps) =
    let rest = first-le book (suc number) count sweeps in
    let both = sum_by-append (λ (leg : BookedLeg). leg.parts.still_open) (booked_from book number 1 legs)
    (all_booked_from book (suc number) sweeps) in
    omega (arith, rest, both)

past : (sweeps : List (List Routed)) (count : ℕ) → slice_get sweeps count ≡ None → length sweeps ≤ count
past [] count e = omega arith
past (legs ∷ sweeps) zero e = absurd cc
past (legs ∷ sweeps) (suc count) e = let rest = past sweeps count e in omega (arith, rest)

opened_few : (entries : List BookEntry) → length (opened entries) ≤ length entries
opened_few [] = omega arith
opened_few (Opened sweep ∷ entries) = let rest = opened_few entries in omega (arith, rest)
opened_few (Withdrawn id ∷ entries) = let rest = opened_few entries in omega (arith, rest)
opened_few (Moved venue note ∷ entries) = let rest = opened_few entries in omega (arith, rest)

-- the open shares are at most 10^18
pub few_open : (book : BookParts) → Replays book → still_open book ≤ 1000000000000000000
few_open book replays =
    let sweeps = opened book.entries in
    let sound = sound_book book replays in
    let weighed = weighed_all book (λ (leg : BookedLeg). leg.parts.still_open) 1 sweeps in
    let within = weigh_all-le (λ id r. (leg_parts id r.terms.shares book).still_open) (λ id r. r.terms.shares) 1 sweeps
    (λ m k legs routed d e. (let found = in_order book.entries m k legs routed d e in
    let adds = leg_adds_up book (id_at (1 + m) (1 + k)) routed sound found in omega (arith, adds))) in
    let shares = ordered_all 1 sweeps in
    let few = (bounded_book book replays).few in
    omega (arith, weighed, within, shares, few)

pub few_first : (book : BookParts) → Replays book → (count : ℕ)
    → first_open book 1 count (opened book.entries) ≤ 1000000000000000000
few_first book replays count =
    let all = few_open book replays in
    let le = first-le book 1 count (opened book.entries) in
    omega (arith, all, le)

totals_at : (book : BookParts) (count : ℕ) (t : Totals) (found : Option (List Routed))
    → slice_get (opened book.entries) count ≡ found
    → option_map (λ legs. totals_of (booked_from book (suc count) 1 legs)) found ≡ Some t
    → first_open book 1 (suc count) (opened book.entries)
    ≡ first_open book 1 count (opened book.entries) + t.still_open
totals_at book count t None is e = absurd cc
totals_at book count t (Some legs) is e =
    let same : totals_of (booked_from book (suc count) 1 legs) ≡ t = cc in
    let more = first_more book 1 count (opened book.entries) legs is in
    let at : 1 + count ≡ suc count = omega arith in
    let here : open_in (booked_from book (1 + count) 1 legs) ≡ t.still_open =
    ap (λ n. open_in (booked_from book n 1 legs)) at ∙ ap (λ (u : Totals). u.still_open) same in
    omega (arith, more, here)

-- one sweep more
pub totals_some : (book : BookParts) (count : ℕ) (t : Totals) → totals book (count + 1) ≡ Some t
    → first_open book 1 (count + 1) (opened book.entries)
    ≡ first_open book 1 count (opened book.entries) + t.still_open
totals_some book count t e =
    let at : count + 1 ≡ suc count = add-one count in
    let told : totals book (suc count) ≡ Some t = ap (totals book) (sym at) ∙ e in
    ap (λ n. first_open book 1 n (opened book.entries)) at
    ∙ totals_at book count t (slice_get (opened book.entries) count) refl told

none_at : (book : BookParts) (count : ℕ) (found : Option (List Routed)) → slice_get (opened book.entries) count ≡ found
    → option_map (λ legs. totals_of (booked_from book (suc count) 1 legs)) found ≡ None
    → first_open book 1 count (opened book.entries) ≡ still_open book
none_at book count None is e = first_all book 1 count (opened book.entries) (past (opened book.entries) count is)
none_at book count (Some legs) is e = absurd cc

-- no sweep more
pub totals_none : (book : BookParts) (count : ℕ) → totals book (count + 1) ≡ None
    → first_open book 1 count (opened book.entries) ≡ still_open book
totals_none book count e =
    none_at book count (slice_get (opened book.entries) count) refl (ap (totals book) (sym (add-one count)) ∙ e)

pub totals_all : (book : BookParts) (count : ℕ) → length book.entries ≤ count
    → first_open book 1 count (opened book.entries) ≡ still_open book
totals_all book count few =
    let fewer = opened_few book.entries in
    first_all book 1 count (opened book.entries) (omega (arith, few, fewer))

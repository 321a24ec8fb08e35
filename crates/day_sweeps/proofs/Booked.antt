-- The sweeps of a book, one after the other.
use Rattle.std.proofs.Common.{◌≡◌, ℕ, zero, suc, ◌+◌, ◌≤◌, List, [], ◌∷◌, ◌++◌, length, drop, Option, Some, None, refl, sym, ap, subst, ◌∙◌, add-one, arith}
use Rattle.std.specs.Prelude.{slice_get, sum_by, option_map}
use Rattle.std.proofs.lemmas.List.{append_assoc, append-nil}
use Rattle.std.proofs.lemmas.List.Sums.{sum_by-cons}
use Rattle.leg.specs.Numbered.{numbered}
use Rattle.leg.specs.declared.sweep.Routed.{Routed}
use Rattle.leg.specs.declared.totals.Totals.{Totals}
use Rattle.share_ledger.specs.declared.book_entry.BookEntry.{BookEntry}
use Rattle.share_ledger.specs.declared.book_entry.BookEntry.TheVariants.{Opened, Withdrawn, Moved}
use Rattle.share_ledger.specs.Entries.{opened, sweep_shares}
use Rattle.share_ledger.specs.Book.{BookParts, booked_from, totals_of, totals, totals_shares}
use Rattle.share_ledger.proofs.Adding.{totals_add_up}
use Rattle.exec_collector.specs.Resolved.{Replays}
use Rattle.exec_collector.proofs.Bounded.{bounded_book}
use Rattle.desk_news.specs.declared.sweep_parts.SweepParts.{SweepParts}
use Rattle.day_sweeps.specs.Sweeps.{sweep_of, sweep_in, sweeps_from, sweeps_in, sum_of}

-- what is left of a list at a place
next_at : {A : Type 0} (xs : List A) (at : ℕ) (x : A) → slice_get xs at ≡ Some x → drop at xs ≡ x ∷ drop (suc at) xs
next_at [] at x e = absurd cc
next_at (first ∷ xs) zero x e = (let same : first ≡ x = cc in ap (λ y. y ∷ xs) same)
next_at (first ∷ xs) (suc at) x e = next_at xs at x e

none_at : {A : Type 0} (xs : List A) (at : ℕ) → slice_get xs at ≡ None → drop at xs ≡ []
none_at [] zero e = refl
none_at [] (suc at) e = refl
none_at (x ∷ xs) zero e = absurd cc
none_at (x ∷ xs) (suc at) e = none_at xs at e

past : {A : Type 0} (xs : List A) (at : ℕ) → length xs ≤ at → drop at xs ≡ []
past [] zero few = refl
past [] (suc at) few = refl
past (x ∷ xs) zero few = absurd (omega arith)
past (x ∷ xs) (suc at) few = past xs at (omega arith)

pub opened_few : (entries : List BookEntry) → length (opened entries) ≤ length entries
opened_few [] = omega arith
opened_few (Opened sweep ∷ entries) = let rest = opened_few entries in omega (arith, rest)
opened_few (Withdrawn id ∷ entries) = let rest = opened_few entries in omega (arith, rest)
opened_few (Moved venue note ∷ entries) = let rest = opened_few entries in omega (arith, rest)

-- one of some numbers is at most their sum
one_of : {A : Type 0} (f : A → ℕ) (xs : List A) (at : ℕ) (x : A) → slice_get xs at ≡ Some x → f x ≤ sum_by f xs
one_of f [] at x e = absurd cc
one_of f (first ∷ xs) zero x e =
    let same : first ≡ x = cc in
    let is = ap f same in
    let all = sum_by-cons f first xs in
    omega (arith, is, all)
one_of f (first ∷ xs) (suc at) x e =
    let rest = one_of f xs at x e in
    let all = sum_by-cons f first xs in
    omega (arith, rest, all)

-- the sweep at a place has these totals, and its shares are their sum
record Found (book : BookParts) (at : ℕ) (t : Totals) : Type 0 where
  pub legs : List Routed
  pub there : slice_get (opened book.entries) at ≡ Some legs
  pub totals_are : totals_of (booked_from book (suc at) 1 legs) ≡ t
  pub shares : sum_of t ≡ sweep_shares legs

found_at : (book : BookParts) (at : ℕ) (t : Totals) (found : Option (List Routed)) → Replays book
    → slice_get (opened book.entries) at ≡ found → totals book (suc at) ≡ Some t
    → option_map (λ legs. totals_of (booked_from book (suc at) 1 legs)) found ≡ Some t
    → Found book at t
found_at book at t None replays is told e = absurd cc
found_at book at t (Some legs) replays is told e =
    let adds = subst (λ (b : BookParts). numbered (suc at) (opened b.entries) ≡ Some legs
    → totals_shares (totals b (suc at)) ≡ Some (sweep_shares legs)) replays
    (totals_add_up book.venues book.entries (suc at) legs) in
    let sums : Some (sum_of t) ≡ Some (sweep_shares legs) = ap totals_shares (sym told) ∙ adds is in
    record { legs = legs; there = is; totals_are = cc; shares = cc }

found : (book : BookParts) (at : ℕ) (t : Totals) → Replays book → totals book (at + 1) ≡ Some t → Found book at t
found book at t replays e =
    let told : totals book (suc at) ≡ Some t = ap (totals book) (sym (add-one at)) ∙ e in
    found_at book at t (slice_get (opened book.entries) at) replays refl told told

-- a sweep whose totals were looked up
pub sweep_told : (book : BookParts) (number shares : ℕ) (t : Totals) → 1 ≤ number → Replays book
    → totals book number ≡ Some t → shares ≡ sum_of t
    → Some (record { sweep = number; shares = shares; totals = t }) ≡ sweep_in book number
sweep_told book zero shares t some replays e sum_is = absurd (omega (arith, some))
sweep_told book (suc at) shares t some replays e sum_is =
    let it = found_at book at t (slice_get (opened book.entries) at) replays refl e e in
    let as_shares : shares ≡ sweep_shares it.legs = sum_is ∙ it.shares in
    let this : record { sweep = suc at; shares = shares; totals = t } ≡ sweep_of book (suc at) it.legs =
    (λ k. record { sweep = suc at; shares = as_shares k; totals = sym it.totals_are k }) in
    ap Some this ∙ sym (ap (option_map (sweep_of book (suc at))) it.there)

-- the parts of a sweep are at most all shares that were opened
pub few_shares : (book : BookParts) (at : ℕ) (t : Totals) → Replays book → totals book (at + 1) ≡ Some t
    → sum_of t ≤ 1000000000000000000
few_shares book at t replays e =
    let it = found book at t replays e in
    let shares = it.shares in
    let all = (bounded_book book replays).few in
    let one = one_of sweep_shares (opened book.entries) at it.legs it.there in
    omega (arith, shares, all, one)

pub few_numbered : (book : BookParts) (number : ℕ) (t : Totals) → 1 ≤ number → Replays book
    → totals book number ≡ Some t → sum_of t ≤ 1000000000000000000
few_numbered book zero t some replays e = absurd (omega (arith, some))
few_numbered book (suc at) t some replays e = few_shares book at t replays (ap (totals book) (add-one at) ∙ e)

-- one sweep more
pub one_more : (book : BookParts) (at number shares : ℕ) (t : Totals) (now next : List SweepParts) → Replays book
    → totals book (at + 1) ≡ Some t → number ≡ at + 1 → shares ≡ sum_of t
    → next ≡ now ++ record { sweep = number; shares = shares; totals = t } ∷ []
    → now ++ sweeps_from book (suc at) (drop at (opened book.entries)) ≡ sweeps_in book
    → next ++ sweeps_from book (suc (at + 1)) (drop (at + 1) (opened book.entries)) ≡ sweeps_in book
one_more book at number shares t now next replays e numbered_as sum_is pushed so_far =
    let it = found book at t replays e in
    let rest : List SweepParts = sweeps_from book (suc (suc at)) (drop (suc at) (opened book.entries)) in
    let sweep : SweepParts = record { sweep = number; shares = shares; totals = t } in
    let as_number : number ≡ suc at = numbered_as ∙ add-one at in
    let as_shares : shares ≡ sweep_shares it.legs = sum_is ∙ it.shares in
    let this : sweep ≡ record {
      sweep = suc at;
      shares = sweep_shares it.legs;
      totals = totals_of (booked_from book (suc at) 1 it.legs);
    } = (λ k. record { sweep = as_number k; shares = as_shares k; totals = sym it.totals_are k }) in
    let left : sweeps_from book (suc at) (drop at (opened book.entries)) ≡ sweep ∷ rest =
    ap (sweeps_from book (suc at)) (next_at (opened book.entries) at it.legs it.there)
    ∙ ap (λ (s : SweepParts). s ∷ rest) (sym this) in
    ap (λ (s : List SweepParts). s ++ sweeps_from book (suc (at + 1)) (drop (at + 1) (opened book.entries))) pushed
    ∙ (ap (λ n. (now ++ sweep ∷ []) ++ sweeps_from book (suc n) (drop n (opened book.entries))) (add-one at)
    ∙ (append_assoc now (sweep ∷ []) rest ∙ (ap (λ (l : List SweepParts). now ++ l) (sym left) ∙ so_far)))

-- no sweep more
over : (book : BookParts) (at : ℕ) (now : List SweepParts) → drop at (opened book.entries) ≡ []
    → now ++ sweeps_from book (suc at) (drop at (opened book.entries)) ≡ sweeps_in book → now ≡ sweeps_in book
over book at now none so_far =
    sym (append-nil now) ∙ (ap (λ (l : List (List Routed)). now ++ sweeps_from book (suc at) l) (sym none) ∙ so_far)

none_found : (book : BookParts) (at : ℕ) (is : Option (List Routed)) → slice_get (opened book.entries) at ≡ is
    → option_map (λ legs. totals_of (booked_from book (suc at) 1 legs)) is ≡ None → is ≡ None
none_found book at None is e = refl
none_found book at (Some legs) is e = absurd cc

pub none_more : (book : BookParts) (at : ℕ) (now : List SweepParts) → totals book (at + 1) ≡ None
    → now ++ sweeps_from book (suc at) (drop at (opened book.entries)) ≡ sweeps_in book → now ≡ sweeps_in book
none_more book at now e so_far =
    let told : totals book (suc at) ≡ None = ap (totals book) (sym (add-one at)) ∙ e in
    over book at now (none_at (opened book.entries) at
    (none_found book at (slice_get (opened book.entries) at) refl told)) so_far

pub all_told : (book : BookParts) (at : ℕ) (now : List SweepParts) → length book.entries ≤ at
    → now ++ sweeps_from book (suc at) (drop at (opened book.entries)) ≡ sweeps_in book → now ≡ sweeps_in book
all_told book at now few so_far =
    let fewer = opened_few book.entries in
    over book at now (past (opened book.entries) at (omega (arith, few, fewer))) so_far

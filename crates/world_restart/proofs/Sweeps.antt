-- The sweeps of a book that was made by calls are opened again, each under its number, and so are the first of them.
use Rattle.std.proofs.Common.{◌≡◌, ◌+◌, ◌==◌, ◌&&◌, ℕ, zero, suc, Bool, true, false, List, [], ◌∷◌, ◌++◌, length, map, take, Ok, Err, refl, sym, ap, subst, ◌∙◌, inl, inr, append_assoc, if◌then◌else◌, nat_le}
use Rattle.std.specs.Prelude.{nat_lt, sum_by}
use Rattle.std.specs.List.{list_all}
use Rattle.std.proofs.lemmas.Bool.{eq-eqb}
use Rattle.std.proofs.lemmas.List.{append-nil}
use Rattle.leg.specs.declared.sweep.Routed.{Routed}
use Rattle.share_ledger.specs.declared.book_entry.BookEntry.{BookEntry}
use Rattle.share_ledger.specs.declared.book_entry.BookEntry.TheVariants.{Opened, Withdrawn, Moved}
use Rattle.share_ledger.specs.declared.book_fault.BookFault.TheVariants.{NotNext, Unfit}
use Rattle.share_ledger.specs.Entries.{opened, sweep_shares}
use Rattle.share_ledger.specs.Book.{BookParts, BookAnswer, new_book, written, next_sweep, is_fit, withdraw, apply, again, replay}
use Rattle.share_ledger.proofs.OneMore.{opened-append, opened-withdrawn, opened-moved}
use Rattle.share_ledger.proofs.Outcomes.{IsWrittenOrSame, withdraw_outcome, apply_outcome}

-- a sweep fits behind others in a book of so many venues
abbrev fits : ℕ → List (List Routed) → List Routed → Bool
fits venues before legs =
    nat_le 1 (length legs)
    && nat_le (length legs) 32
    && list_all (λ routed. nat_lt routed.venue venues) legs
    && nat_le (sum_by sweep_shares before + sweep_shares legs) 1000000000000000000

-- each of these fits behind those before it
abbrev pub AllFit : ℕ → List (List Routed) → List (List Routed) → Type 0
AllFit venues before [] = Unit {0}
AllFit venues before (legs ∷ sweeps) =
    (fits venues before legs ≡ true) × AllFit venues (before ++ legs ∷ []) sweeps

fit_push : (venues : ℕ) (before sweeps : List (List Routed)) (legs : List Routed) → AllFit venues before sweeps
    → fits venues (before ++ sweeps) legs ≡ true → AllFit venues before (sweeps ++ legs ∷ [])
fit_push venues before [] legs all fit =
    (subst (λ l. fits venues l legs ≡ true) (append-nil before) fit, tt)
fit_push venues before (first ∷ sweeps) legs all fit = (
  all.0,
  fit_push venues (before ++ first ∷ []) sweeps legs all.1
      (subst (λ l. fits venues l legs ≡ true) (sym (append_assoc before (first ∷ []) sweeps)) fit),
)

pub fit_take : (venues : ℕ) (before : List (List Routed)) (n : ℕ) (sweeps : List (List Routed))
    → AllFit venues before sweeps → AllFit venues before (take n sweeps)
fit_take venues before zero [] all = tt
fit_take venues before zero (legs ∷ sweeps) all = tt
fit_take venues before (suc n) [] all = tt
fit_take venues before (suc n) (legs ∷ sweeps) all =
    (all.0, fit_take venues (before ++ legs ∷ []) n sweeps all.1)

-- a book of so many venues, whose sweeps fit
record HasFit (venues : ℕ) (b : BookParts) : Type 0 where
  count : b.venues ≡ venues
  all : AllFit venues [] (opened b.entries)

fit_same : (venues : ℕ) (entry : BookEntry) (b after : BookParts)
    → opened (b.entries ++ entry ∷ []) ≡ opened b.entries → IsWrittenOrSame entry b after → HasFit venues b
    → HasFit venues after
fit_same venues entry b after same (inl writes) has =
    subst (HasFit venues) (sym writes)
    (record { count = has.count; all = subst (AllFit venues []) (sym same) has.all })
fit_same venues entry b after same (inr stays) has = subst (HasFit venues) (sym stays) has

fit_opened : (venues : ℕ) (b : BookParts) (legs : List Routed) → HasFit venues b → is_fit b legs ≡ true
    → HasFit venues (written (Opened (record { legs = legs })) b)
fit_opened venues b legs has fit =
    let at : fits venues (opened b.entries) legs ≡ true =
    subst (λ n. fits n (opened b.entries) legs ≡ true) has.count fit in
    record {
      count = has.count;
      all = subst (AllFit venues []) (sym (opened-append b.entries (Opened (record { legs = legs }) ∷ [])))
          (fit_push venues [] (opened b.entries) legs has.all at);
    }

fit_open : (venues : ℕ) (b : BookParts) (legs : List Routed) (next fit : Bool) → is_fit b legs ≡ fit → HasFit venues b
    → HasFit venues
    ((let r : BookAnswer =
    if next then (if fit then (Ok tt, written (Opened (record { legs = legs })) b) else (Err Unfit, b))
    else (Err NotNext, b) in r).1)
fit_open venues b legs true true is has = fit_opened venues b legs has is
fit_open venues b legs true false is has = has
fit_open venues b legs false fit is has = has

fit_again : (venues : ℕ) (b : BookParts) (entry : BookEntry) → HasFit venues b → HasFit venues (again b entry)
fit_again venues b (Opened sweep) has =
    fit_open venues b sweep.legs (next_sweep b == next_sweep b) (is_fit b sweep.legs) refl has
fit_again venues b (Withdrawn id) has =
    fit_same venues (Withdrawn id) b (withdraw b id).1 (opened-withdrawn b.entries id) (withdraw_outcome b id) has
fit_again venues b (Moved v note) has =
    fit_same venues (Moved v note) b (apply b v note).1 (opened-moved b.entries v note) (apply_outcome b v note) has

fit_replay : (venues : ℕ) (b : BookParts) (calls : List BookEntry) → HasFit venues b → HasFit venues (replay b calls)
fit_replay venues b [] has = has
fit_replay venues b (entry ∷ calls) has = fit_replay venues (again b entry) calls (fit_again venues b entry has)

pub all_fit : (venues : ℕ) (calls : List BookEntry)
    → AllFit venues [] (opened (replay (new_book venues) calls).entries)
all_fit venues calls = (fit_replay venues (new_book venues) calls (record { count = refl; all = tt })).all

-- so they are opened again, one behind the other
abbrev pub openings : List (List Routed) → List BookEntry
openings sweeps = map (λ legs. Opened (record { legs = legs })) sweeps

open_one : (b : BookParts) (legs : List Routed) → is_fit b legs ≡ true
    → again b (Opened (record { legs = legs })) ≡ written (Opened (record { legs = legs })) b
open_one b legs fit =
    let next : (next_sweep b == next_sweep b) ≡ true = eq-eqb (next_sweep b) (next_sweep b) refl in
    ap (λ t. (let r : BookAnswer =
    if t then (if is_fit b legs then (Ok tt, written (Opened (record { legs = legs })) b) else (Err Unfit, b))
    else (Err NotNext, b) in r).1) next
    ∙ ap (λ t. (let r : BookAnswer =
    if t then (Ok tt, written (Opened (record { legs = legs })) b) else (Err Unfit, b) in r).1) fit

pub all_opened : (b : BookParts) (sweeps : List (List Routed)) → AllFit b.venues (opened b.entries) sweeps
    → replay b (openings sweeps) ≡ record b { entries = b.entries ++ openings sweeps }
all_opened b [] all = ap (λ l. (let r : BookParts = record b { entries = l } in r)) (sym (append-nil b.entries))
all_opened b (legs ∷ sweeps) all =
    let one = open_one b legs all.0 in
    let now = written (Opened (record { legs = legs })) b in
    let more : AllFit b.venues (opened now.entries) sweeps =
    subst (λ l. AllFit b.venues l sweeps)
    (sym (opened-append b.entries (Opened (record { legs = legs }) ∷ []))) all.1 in
    ap (λ x. replay x (openings sweeps)) one
    ∙ (all_opened now sweeps more
    ∙ ap (λ l. (let r : BookParts = record b { entries = l } in r))
    (append_assoc b.entries (Opened (record { legs = legs }) ∷ []) (openings sweeps)))

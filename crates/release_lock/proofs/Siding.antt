-- The sweeps that the desk released are those that were opened in the book, and stay so when one more is placed.
use Rattle.std.proofs.Common.{◌≡◌, ℕ, inl, inr, Bool, true, false, List, [], ◌∷◌, ◌++◌, map, Option, Some, None, Result, Ok, Err, refl, ap, sym, ◌∙◌, if◌then◌else◌}
use Rattle.std.specs.Prelude.{◌==◌}
use Rattle.leg.specs.declared.sweep.Routed.{Routed}
use Rattle.leg.specs.declared.sweep.Sweep.{Sweep}
use Rattle.share_ledger.specs.declared.book_fault.BookFault.TheVariants.{Unfit, NotNext}
use Rattle.share_ledger.specs.declared.book_entry.BookEntry.TheVariants.{Opened}
use Rattle.share_ledger.specs.Entries.{opened, sweep_shares}
use Rattle.share_ledger.specs.Book.{BookParts, BookAnswer, written, next_sweep, is_fit}
use Rattle.share_ledger.proofs.OneMore.{opened-append}
use Rattle.exec_collector.specs.Opened.{IsSide, sweeps_of}
use Rattle.sweep_release.specs.declared.receipt.Receipt.{Receipt}
use Rattle.sweep_release.specs.declared.release_fault.ReleaseFault.{ReleaseFault}
use Rattle.sweep_release.specs.Desk.{release_refusal, release_unless, next_number, with_sweep}
use Rattle.sweep_release.specs.History.{KeptDesk}
use Rattle.sweep_release.specs.Place.{DeskAndBook, place_in_book, place_after, kept, place_kept, PlaceAnswers}
use Rattle.release_lock.specs.Locked.{IsDeskSide}

abbrev legs_of : List Sweep → List (List Routed)
legs_of sweeps = map (λ sweep. sweep.legs) sweeps

legs-sweeps : (all : List (List Routed)) → legs_of (sweeps_of all) ≡ all
legs-sweeps [] = refl
legs-sweeps (legs ∷ all) = ap (λ more. legs ∷ more) (legs-sweeps all)

pub same_sweeps : (xs ys : List (List Routed)) → sweeps_of xs ≡ sweeps_of ys → xs ≡ ys
same_sweeps xs ys e = sym (legs-sweeps xs) ∙ (ap legs_of e ∙ legs-sweeps ys)

-- the desk released just what the book opened
abbrev Same : DeskAndBook → Type 0
Same both = opened both.book.entries ≡ both.desk.sweeps

one_more : (before : DeskAndBook) (legs : List Routed) → Same before
    → opened (written (Opened (record { legs = legs })) before.book).entries ≡ (with_sweep legs before.desk).sweeps
one_more before legs same =
    opened-append before.book.entries (Opened (record { legs = legs }) ∷ [])
    ∙ ap (λ sweeps. sweeps ++ legs ∷ []) same

in_book : (before : DeskAndBook) (receipt : Receipt) (legs : List Routed) (is_next fits : Bool) → Same before
    → (let answer : BookAnswer = if is_next
    then (if fits then (Ok tt, written (Opened (record { legs = legs })) before.book) else (Err Unfit, before.book))
    else (Err NotNext, before.book) in
    Same (place_in_book before receipt (with_sweep legs before.desk) answer).1)
in_book before receipt legs true true same = one_more before legs same
in_book before receipt legs true false same = same
in_book before receipt legs false fits same = same

after_release : (before : DeskAndBook) (legs : List Routed) (refusal : Option ReleaseFault) → Same before
    → Same (place_after before legs (release_unless refusal before.desk legs)).1
after_release before legs None same =
    let number = next_number before.desk in
    in_book before (record { number = number; shares = sweep_shares legs }) legs (number == next_sweep before.book)
    (is_fit before.book legs) same
after_release before legs (Some fault) same = same

pub placed_same : (before after : KeptDesk) (book book_after : BookParts) (legs : List Routed)
    (answer : Result Receipt ReleaseFault)
    → PlaceAnswers (kept before book) (place_kept (kept before book) legs) answer (kept after book_after)
    → opened book.entries ≡ before.desk.sweeps → opened book_after.entries ≡ after.desk.sweeps
placed_same before after book book_after legs answer (inl is) same =
    ap (λ d. opened d.book.entries) is.1
    ∙ (after_release (record { desk = before.desk; book = book }) legs (release_refusal before.desk legs) same
    ∙ sym (ap (λ d. d.desk.desk.sweeps) is.1))
placed_same before after book book_after legs answer (inr wants) same =
    ap (λ d. opened d.book.entries) wants.2 ∙ (same ∙ sym (ap (λ d. d.desk.desk.sweeps) wants.2))

-- both sides have the sweeps opened and those released
pub placed_side : {desks books name now : ℕ} {items more : List Sweep} (before after : KeptDesk)
    (book book_after : BookParts) (legs : List Routed) (answer : Result Receipt ReleaseFault)
    → PlaceAnswers (kept before book) (place_kept (kept before book) legs) answer (kept after book_after)
    → desks ≡ books → IsSide books book name items → IsSide books book_after now more
    → IsDeskSide desks before name items → IsDeskSide desks after now more
placed_side before after book book_after legs answer placed tied in_book_before in_book_now at_desk =
    let was = same_sweeps _ _ (sym in_book_before.opens ∙ at_desk.releases) in
    record {
      named = in_book_now.named ∙ sym tied;
      releases = in_book_now.opens ∙ ap sweeps_of (placed_same before after book book_after legs answer placed was);
    }

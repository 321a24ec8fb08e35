-- A report that moved, and comes again, is a duplicate.
use Rattle.std.proofs.Common.{◌≡◌, ℕ, true, List, [], ◌∷◌, ◌++◌, Some, Ok, refl, ap, ◌∙◌}
use Rattle.std.specs.Prelude.{◌==◌, bytes_eq}
use Rattle.std.proofs.lemmas.Bool.{eq-eqb, or_right}
use Rattle.std.proofs.lemmas.Slice.Eq.{bytes_eq-Decides}
use Rattle.leg.specs.declared.sweep.Routed.{Routed}
use Rattle.leg.specs.LegId.{LegIdParts}
use Rattle.dialect.specs.declared.note.Note.TheVariants as note
use Rattle.dialect.specs.declared.report.Report.{Report}
use Rattle.share_ledger.specs.declared.applied.Applied.TheVariants as applied
use Rattle.share_ledger.specs.declared.book_entry.BookEntry.{BookEntry}
use Rattle.share_ledger.specs.declared.book_entry.BookEntry.TheVariants.{Moved}
use Rattle.share_ledger.specs.Entries.{order_of, is_booked}
use Rattle.share_ledger.specs.Shares.{Move, move_of}
use Rattle.share_ledger.specs.Book.{BookParts, written, leg_answer, answer_to, after_note, apply}
use Rattle.share_ledger.proofs.OneMore.{is_booked-append, order_of-moved}
use Rattle.share_ledger.proofs.Outcomes.{answered}
use Rattle.share_ledger.proofs.Sound.{let_in}

pub booked_now : (venue : ℕ) (report : Report) (entries : List BookEntry)
    → is_booked venue report.exec (entries ++ Moved venue (note.Report report) ∷ []) ≡ true
booked_now venue report entries =
    let same_venue : (venue == venue) ≡ true = eq-eqb venue venue refl in
    let same_exec : bytes_eq report.exec report.exec ≡ true = (bytes_eq-Decides report.exec report.exec).1 refl in
    is_booked-append venue report.exec entries (Moved venue (note.Report report) ∷ [])
    ∙ or_right (is_booked venue report.exec entries) _ (rw (same_venue, same_exec) refl)

duplicate : (book : BookParts) (venue : ℕ) (move : Move) (leg : LegIdParts) (order : Routed)
    → (order.venue == venue) ≡ true → leg_answer book venue true move leg (Some order) ≡ applied.Duplicate
duplicate book venue move leg order of_venue = rw of_venue refl

again_duplicate : (book : BookParts) (venue : ℕ) (report : Report)
    → answer_to book venue (note.Report report) ≡ applied.Moved
    → answer_to (written (Moved venue (note.Report report)) book) venue (note.Report report) ≡ applied.Duplicate
again_duplicate book venue report moved =
    let it = let_in book venue (is_booked venue report.exec book.entries) (move_of (note.Report report)) report.id
    (order_of report.id book.entries) refl moved in
    let after = written (Moved venue (note.Report report)) book in
    let found : order_of report.id after.entries ≡ Some it.order = order_of-moved report.id book.entries venue
    (note.Report report) ∙ it.found in
    ap (λ b. leg_answer after venue b (move_of (note.Report report)) report.id (order_of report.id after.entries))
    (booked_now venue report book.entries)
    ∙ (ap (leg_answer after venue true (move_of (note.Report report)) report.id) found
    ∙ duplicate after venue (move_of (note.Report report)) report.id it.order it.of_venue)

pub counts_once : (book : BookParts) (venue : ℕ) (report : Report)
    → (apply book venue (note.Report report)).0 ≡ Ok applied.Moved
    → (apply (apply book venue (note.Report report)).1 venue (note.Report report)).0 ≡ Ok applied.Duplicate
counts_once book venue report ok =
    let moved = answered (answer_to book venue (note.Report report)) applied.Moved ok in
    ap Ok (ap (λ answer. answer_to (after_note book venue (note.Report report) answer) venue (note.Report report)) moved
    ∙ again_duplicate book venue report moved)

-- What stands on a side of the list of sweeps while notes are booked and legs withdrawn.
use Rattle.std.proofs.Common.{◌≡◌, ℕ, Bool, true, false, List, Result, Err, inl, inr, refl, ap, sym, ◌∙◌, if◌then◌else◌}
use Rattle.leg.specs.LegId.{LegIdParts}
use Rattle.leg.specs.declared.sweep.Sweep.{Sweep}
use Rattle.dialect.specs.declared.note.Note.{Note}
use Rattle.share_ledger.specs.declared.applied.Applied.{Applied}
use Rattle.share_ledger.specs.declared.applied.Applied.TheVariants as applied
use Rattle.share_ledger.specs.declared.book_fault.BookFault.{BookFault}
use Rattle.share_ledger.specs.declared.book_fault.BookFault.TheVariants.{AlreadyMoved}
use Rattle.share_ledger.specs.Entries.{opened, order_of}
use Rattle.share_ledger.specs.Book.{BookParts, BookAnswer, after_note, withdraw}
use Rattle.share_ledger.proofs.OneMore.{opened-moved, opened-withdrawn}
use Rattle.share_ledger.proofs.Outcomes.{withdraw_outcome}
use Rattle.exec_collector.specs.Booked.{withdraw_of, is_of_venue}
use Rattle.exec_collector.specs.Opened.{IsSide, sweeps_of}

side_as : {list name : ℕ} {items : List Sweep} (book after : BookParts) → opened after.entries ≡ opened book.entries
    → IsSide list book name items → IsSide list after name items
side_as book after same side =
    record { named = side.named; opens = side.opens ∙ ap sweeps_of (sym same) }

noted_by : (book : BookParts) (venue : ℕ) (note : Note) (answer : Applied)
    → opened (after_note book venue note answer).entries ≡ opened book.entries
noted_by book venue note applied.Moved = opened-moved book.entries venue note
noted_by book venue note applied.Duplicate = refl
noted_by book venue note applied.Overfill = refl
noted_by book venue note applied.Stray = refl

pub side-noted : {list name : ℕ} {items : List Sweep} (book after : BookParts) (venue : ℕ) (note : Note)
    (answer : Applied) → after ≡ after_note book venue note answer → IsSide list book name items
    → IsSide list after name items
side-noted book after venue note answer is =
    side_as book after (ap (λ b. opened b.entries) is ∙ noted_by book venue note answer)

asked_by : (b : Bool) (book : BookParts) (id : LegIdParts)
    → (let r : BookAnswer = if b then withdraw book id else (Err AlreadyMoved, book) in
    opened r.1.entries ≡ opened book.entries)
asked_by true book id =
    elim (withdraw_outcome book id) [
      | inl writes ↦ ap (λ b. opened b.entries) writes ∙ opened-withdrawn book.entries id
      | inr same ↦ ap (λ b. opened b.entries) same
    ]
asked_by false book id = refl

pub side-asked : {list name : ℕ} {items : List Sweep} (book after : BookParts) (venue : ℕ) (id : LegIdParts)
    (result : Result (Unit {0}) BookFault) → (let r : BookAnswer = (result, after) in r ≡ withdraw_of venue book id)
    → IsSide list book name items → IsSide list after name items
side-asked book after venue id result is =
    side_as book after
    (ap (λ (r : BookAnswer). opened r.1.entries) is ∙ asked_by (is_of_venue venue (order_of id book.entries)) book id)

-- What the book answers to a withdrawal: it refuses it, and stays as it was, or writes it.
use Rattle.std.proofs.Common.{◌≡◌, ℕ, Bool, true, false, Option, Some, None, Ok, Err, refl, if◌then◌else◌}
use Rattle.std.specs.Prelude.{◌==◌}
use Rattle.leg.specs.LegId.{LegIdParts}
use Rattle.leg.specs.declared.sweep.Routed.{Routed}
use Rattle.share_ledger.specs.declared.book_entry.BookEntry.TheVariants.{Withdrawn}
use Rattle.share_ledger.specs.declared.book_fault.BookFault.TheVariants.{AlreadyMoved}
use Rattle.share_ledger.specs.Entries.{order_of}
use Rattle.share_ledger.specs.Book.{BookParts, BookAnswer, written, leg_parts, withdraw, withdraw_order}
use Rattle.exec_collector.specs.Booked.{is_of_venue, withdraw_of}

-- the answer that writes it
abbrev pub withdrew : BookParts → LegIdParts → BookAnswer
withdrew book id = (Ok tt, written (Withdrawn id) book)

by_test : (P : BookAnswer → Type 0) (b : Bool) (x y : BookAnswer)
    → ((let r : BookAnswer = if b then x else y in r ≡ x) → P x) → P y → P (if b then x else y)
by_test P true x y on off = on refl
by_test P false x y on off = off

by_venue : (P : BookAnswer → Type 0) (b : Bool) (x y : BookAnswer) → (b ≡ true → P x) → P y → P (if b then x else y)
by_venue P true x y on off = on refl
by_venue P false x y on off = off

by_order : (P : BookAnswer → Type 0) (book : BookParts) (id : LegIdParts) (order : Option Routed)
    → P (Err AlreadyMoved, book) → (withdraw_order book id order ≡ withdrew book id → P (withdrew book id))
    → P (withdraw_order book id order)
by_order P book id None refused done = refused
by_order P book id (Some routed) refused done =
    by_test P ((leg_parts id routed.terms.shares book).still_open == routed.terms.shares) (withdrew book id)
    (Err AlreadyMoved, book) done refused

pub asked_cases : (P : BookAnswer → Type 0) (venue : ℕ) (book : BookParts) (id : LegIdParts)
    → P (Err AlreadyMoved, book)
    → (is_of_venue venue (order_of id book.entries) ≡ true → withdraw book id ≡ withdrew book id → P (withdrew book id))
    → P (withdraw_of venue book id)
asked_cases P venue book id refused done =
    by_venue P (is_of_venue venue (order_of id book.entries)) (withdraw book id) (Err AlreadyMoved, book)
    (λ here. by_order P book id (order_of id book.entries) refused (done here)) refused

-- A sweep that is placed: released at the desk and opened in the book under one number, or neither.
use Rattle.std.specs.Prelude.{◌≡◌, ◌⊎◌, Bool, true, false, List, ◌++◌, Result, Ok, Err}
use Rattle.leg.specs.declared.sweep.Routed.{Routed}
use Rattle.share_ledger.specs.declared.book_fault.BookFault.{BookFault}
use Rattle.share_ledger.specs.declared.book_fault.BookFault.TheVariants as fault
use Rattle.share_ledger.specs.declared.book_fault.BookFault.TheVariants.{NotNext, Unfit, AlreadyMoved}
use Rattle.share_ledger.specs.Book.{BookParts, BookAnswer, open_sweep}
use Rattle.sweep_release.specs.declared.receipt.Receipt.{Receipt}
use Rattle.sweep_release.specs.declared.release_fault.ReleaseFault.{ReleaseFault}
use Rattle.sweep_release.specs.declared.release_fault.ReleaseFault.TheVariants.{OutOfMemory, WrongBook}
use Rattle.sweep_release.specs.Desk.{DeskParts, release}
use Rattle.sweep_release.specs.History.{DeskWithHistory, KeptDesk, without_room, release_entries}

-- a desk and its book
pub record DeskAndBook : Type 0 where
  pub desk : DeskParts
  pub book : BookParts

-- the book's part, after the desk released the sweep: where the book refuses, neither takes it
abbrev pub place_in_book : DeskAndBook → Receipt → DeskParts → BookAnswer → Result Receipt ReleaseFault × DeskAndBook
place_in_book before receipt desk (Ok done, book) = (Ok receipt, record { desk = desk; book = book })
place_in_book before receipt desk (Err fault, book) = (Err WrongBook, before)

-- the refusals of a release come first, then the book's
abbrev pub place_after : DeskAndBook → List Routed → Result Receipt ReleaseFault × DeskParts
    → Result Receipt ReleaseFault × DeskAndBook
place_after before legs (Ok receipt, desk) =
    place_in_book before receipt desk (open_sweep before.book receipt.number legs)
place_after before legs (Err fault, desk) = (Err fault, before)

abbrev pub place : DeskAndBook → List Routed → Result Receipt ReleaseFault × DeskAndBook
place before legs = place_after before legs (release before.desk legs)

-- a desk with its history, and its book
pub record KeptDeskAndBook : Type 0 where
  pub desk : DeskWithHistory
  pub book : BookParts

abbrev pub kept : KeptDesk → BookParts → KeptDeskAndBook
kept desk book = record { desk = without_room desk; book = book }

-- the same answer, and the desk's history with the release, if the sweep is placed
abbrev pub with_release : KeptDeskAndBook → List Routed → Result Receipt ReleaseFault × DeskAndBook
    → Result Receipt ReleaseFault × KeptDeskAndBook
with_release before legs step = (
  step.0,
  record {
    desk = record { desk = step.1.desk; history = before.desk.history ++ release_entries legs step.0 };
    book = step.1.book;
  },
)

abbrev pub place_kept : KeptDeskAndBook → List Routed → Result Receipt ReleaseFault × KeptDeskAndBook
place_kept before legs =
    with_release before legs (place (record { desk = before.desk.desk; book = before.book }) legs)

-- what is answered where the book refuses a sweep that the desk is ready for
abbrev pub book_refusal : BookFault → ReleaseFault
book_refusal NotNext = WrongBook
book_refusal Unfit = WrongBook
book_refusal AlreadyMoved = WrongBook
book_refusal fault.OutOfMemory = OutOfMemory

-- whether out of memory may be answered in place of this: where the sweep would be placed; and, as the desk is asked
-- before the book, where the book would refuse it
abbrev pub may_want : Result Receipt ReleaseFault → Bool
may_want (Ok receipt) = true
may_want (Err WrongBook) = true
may_want (Err _) = false

-- this answer, and what is after it; or out of memory, and all as it was
abbrev pub PlaceAnswers : KeptDeskAndBook → Result Receipt ReleaseFault × KeptDeskAndBook
    → Result Receipt ReleaseFault → KeptDeskAndBook → Type 0
PlaceAnswers before step answer now =
    ((answer ≡ step.0) × (now ≡ step.1)) ⊎ ((answer ≡ Err OutOfMemory) × (may_want step.0 ≡ true) × (now ≡ before))

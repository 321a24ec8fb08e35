-- What the book took of a venue: the notes that its worker gave and the legs that it asked to be withdrawn, what was
-- answered to each, and which of them are in the book's history.
use Rattle.std.specs.Prelude.{◌≡◌, ℕ, ◌≤◌, ◌==◌, Bool, true, false, List, [], ◌∷◌, ◌++◌, length, take, filter, Option, Some, None, Err, if◌then◌else◌}
use Rattle.std.specs.Result.{is_ok}
use Rattle.leg.specs.LegId.{LegIdParts}
use Rattle.leg.specs.declared.sweep.Routed.{Routed}
use Rattle.dialect.specs.declared.note.Note.{Note}
use Rattle.share_ledger.specs.declared.applied.Applied.{Applied}
use Rattle.share_ledger.specs.declared.applied.Applied.TheVariants as applied
use Rattle.share_ledger.specs.declared.book_entry.BookEntry.{BookEntry}
use Rattle.share_ledger.specs.declared.book_entry.BookEntry.TheVariants.{Opened, Withdrawn, Moved}
use Rattle.share_ledger.specs.declared.book_fault.BookFault.TheVariants.{AlreadyMoved}
use Rattle.share_ledger.specs.Entries.{order_of}
use Rattle.share_ledger.specs.Book.{BookParts, BookAnswer, answer_to, withdraw}
use Rattle.exec_collector.specs.declared.booking.Booking.{Booking}
use Rattle.exec_collector.specs.declared.booking.Booking.TheVariants.{Given, Asked}
use Rattle.exec_collector.specs.Seats.{Seat}

-- the notes of a venue that are in a history, in order
abbrev pub moved_of : ℕ → List BookEntry → List Note
moved_of venue [] = []
moved_of venue (Opened sweep ∷ entries) = moved_of venue entries
moved_of venue (Withdrawn id ∷ entries) = moved_of venue entries
moved_of venue (Moved from note ∷ entries) =
    if from == venue then note ∷ moved_of venue entries else moved_of venue entries

-- whether an order is there, and of this venue
abbrev pub is_of_venue : ℕ → Option Routed → Bool
is_of_venue venue None = false
is_of_venue venue (Some order) = order.venue == venue

-- the legs that are withdrawn in a history, in order
abbrev pub withdrawn_ids : List BookEntry → List LegIdParts
withdrawn_ids [] = []
withdrawn_ids (Opened sweep ∷ entries) = withdrawn_ids entries
withdrawn_ids (Withdrawn id ∷ entries) = id ∷ withdrawn_ids entries
withdrawn_ids (Moved from note ∷ entries) = withdrawn_ids entries

-- those of a venue
abbrev pub withdrawn_of : ℕ → List BookEntry → List LegIdParts
withdrawn_of venue entries = filter (λ id. is_of_venue venue (order_of id entries)) (withdrawn_ids entries)

-- a leg of this venue is withdrawn, as the book does it; one that isn't is refused
abbrev pub withdraw_of : ℕ → BookParts → LegIdParts → BookAnswer
withdraw_of venue book id =
    if is_of_venue venue (order_of id book.entries) then withdraw book id else (Err AlreadyMoved, book)

-- whether the book wrote a note to which it answered this
abbrev pub has_moved : Applied → Bool
has_moved applied.Moved = true
has_moved applied.Duplicate = false
has_moved applied.Overfill = false
has_moved applied.Stray = false

-- the notes of some bookings that moved
abbrev pub moved_among : List Booking → List Note
moved_among [] = []
moved_among (Given note answer entries ∷ rest) =
    if has_moved answer then note ∷ moved_among rest else moved_among rest
moved_among (Asked id withdrawn entries ∷ rest) = moved_among rest

-- the legs of some bookings that the book withdrew
abbrev pub withdrawn_among : List Booking → List LegIdParts
withdrawn_among [] = []
withdrawn_among (Given note answer entries ∷ rest) = withdrawn_among rest
withdrawn_among (Asked id withdrawn entries ∷ rest) =
    if withdrawn then id ∷ withdrawn_among rest else withdrawn_among rest

-- a book when it had so many entries
abbrev pub when_it_had : ℕ → BookParts → BookParts
when_it_had count book = record book { entries = take count book.entries }

-- how many it had before a booking
abbrev pub entries_before : Booking → ℕ
entries_before (Given note answer entries) = entries
entries_before (Asked id withdrawn entries) = entries

-- a booking was answered by the rule of this book
abbrev pub IsRuled : ℕ → BookParts → Booking → Type 0
IsRuled venue book (Given note answer entries) = answer_to book venue note ≡ answer
IsRuled venue book (Asked id withdrawn entries) = is_ok (withdraw_of venue book id).0 ≡ withdrawn

-- what a history has of a venue is what these bookings say: its notes are those that moved, and its legs that are
-- withdrawn are those that the book withdrew
pub record IsAsBooked (venue : ℕ) (book : BookParts) (bookings : List Booking) : Type 0 where
  pub moved : moved_of venue book.entries ≡ moved_among bookings
  pub withdrawn : withdrawn_of venue book.entries ≡ withdrawn_among bookings

-- a booking was answered by the rule of the book as it was then, when that was as these bookings say
pub record IsAnswered (venue : ℕ) (book : BookParts) (before : List Booking) (booking : Booking) : Type 0 where
  pub within : entries_before booking ≤ length book.entries
  pub answer : IsRuled venue (when_it_had (entries_before booking) book) booking
  pub history : IsAsBooked venue (when_it_had (entries_before booking) book) before

-- each of these was, the first of them behind those before
abbrev pub AreAnswered : ℕ → BookParts → List Booking → List Booking → Type 0
AreAnswered venue book before [] = Unit {0}
AreAnswered venue book before (booking ∷ rest) =
    IsAnswered venue book before booking × AreAnswered venue book (before ++ booking ∷ []) rest

-- a venue's bookings: each was answered by the book's rule, and the history is as they say
pub record AreBooked (venue : ℕ) (book : BookParts) (bookings : List Booking) : Type 0 where
  pub answered : AreAnswered venue book [] bookings
  pub history : IsAsBooked venue book bookings

-- the notes of some bookings
abbrev pub notes_of : List Booking → List Note
notes_of [] = []
notes_of (Given note answer entries ∷ rest) = note ∷ notes_of rest
notes_of (Asked id withdrawn entries ∷ rest) = notes_of rest

-- the legs that were asked to be withdrawn
abbrev pub asked_of : List Booking → List LegIdParts
asked_of [] = []
asked_of (Given note answer entries ∷ rest) = asked_of rest
asked_of (Asked id withdrawn entries ∷ rest) = id ∷ asked_of rest

-- a seat of one venue, on which all stands that the book took of it
pub record IsKept (book : BookParts) (seat : Seat) : Type 0 where
  pub venue : ℕ
  pub of_venue : seat.venue ≡ Some venue
  pub booked : AreBooked venue book seat.bookings
  pub notes : seat.booked ≡ notes_of seat.bookings
  pub legs : seat.asked ≡ asked_of seat.bookings

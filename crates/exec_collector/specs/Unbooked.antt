-- The notes that the book didn't take, each with the book's answer, in the order in which they were given.
use Rattle.std.specs.Prelude.{◌≡◌, ◌⊎◌, ◌==◌, ◌≤◌, ℕ, false, List, [], ◌∷◌, ◌++◌, length, map, filter, Some, Result, Ok, if◌then◌else◌}
use Rattle.dialect.specs.declared.note.Note.{Note}
use Rattle.share_ledger.specs.declared.applied.Applied.{Applied}
use Rattle.share_ledger.specs.declared.book_fault.BookFault.{BookFault}
use Rattle.share_ledger.specs.Book.{BookParts, answer_to, after_note}
use Rattle.exec_collector.specs.declared.booking.Booking.{Booking}
use Rattle.exec_collector.specs.declared.booking.Booking.TheVariants.{Given, Asked}
use Rattle.exec_collector.specs.declared.unbooked.Unbooked.{Unbooked}
use Rattle.exec_collector.specs.Booked.{has_moved, when_it_had, moved_of}
use Rattle.exec_collector.specs.Seats.{Seat}

-- what stands under the lock: the book, and the notes that it didn't take
pub record CountedParts : Type 0 where
  pub book : BookParts
  pub unbooked : List Unbooked

-- the same, and for how many notes the list has room
pub record KeptCounted : Type 0 where
  pub book : BookParts
  pub unbooked : List Unbooked
  pub room : ℕ

abbrev pub without_room : KeptCounted → CountedParts
without_room kept = record { book = kept.book; unbooked = kept.unbooked }

-- a note to which the book, of so many entries, answered this: it is listed, if the book didn't take it
abbrev pub unbooked_by : ℕ → Note → Applied → ℕ → List Unbooked
unbooked_by venue note answer entries =
    if has_moved answer
    then []
    else record { venue = venue; note = note; answer = answer; entries = entries } ∷ []

-- a note to which the book answered this is written in the book or behind the list
abbrev pub after_given : CountedParts → ℕ → Note → Applied → CountedParts
after_given counted venue note answer = record {
  book = after_note counted.book venue note answer;
  unbooked = counted.unbooked ++ unbooked_by venue note answer (length counted.book.entries);
}

-- a note of a venue is given
abbrev pub give : CountedParts → ℕ → Note → Result Applied BookFault × CountedParts
give counted venue note =
    (Ok (answer_to counted.book venue note), after_given counted venue note (answer_to counted.book venue note))

-- those of a venue
abbrev pub unbooked_of : ℕ → List Unbooked → List Unbooked
unbooked_of venue all = filter (λ item. item.venue == venue) all

-- what the book didn't take of some bookings of a venue
abbrev pub unbooked_among : ℕ → List Booking → List Unbooked
unbooked_among venue [] = []
unbooked_among venue (Given note answer entries ∷ rest) =
    unbooked_by venue note answer entries ++ unbooked_among venue rest
unbooked_among venue (Asked id withdrawn entries ∷ rest) = unbooked_among venue rest

-- a seat of one venue, of which just those notes are listed, in their order, that were booked on it and that the book
-- didn't take, each with the book's answer
pub record WereUnbooked (unbooked : List Unbooked) (seat : Seat) : Type 0 where
  pub venue : ℕ
  pub of_venue : seat.venue ≡ Some venue
  pub listed : unbooked_of venue unbooked ≡ unbooked_among venue seat.bookings

-- a note that the book, as it was then, answered so and didn't take
pub record WasUnbooked (book : BookParts) (item : Unbooked) : Type 0 where
  pub within : item.entries ≤ length book.entries
  pub answer : answer_to (when_it_had item.entries book) item.venue item.note ≡ item.answer
  pub left : has_moved item.answer ≡ false

-- each of these was, none before so many entries, and none before the one in front of it
abbrev pub WereUnbookedFrom : ℕ → BookParts → List Unbooked → Type 0
WereUnbookedFrom least book [] = Unit {0}
WereUnbookedFrom least book (item ∷ rest) =
    (least ≤ item.entries) × WasUnbooked book item × WereUnbookedFrom item.entries book rest

-- the list of a book: each was answered by the book's rule, in the order of the book's history
abbrev pub IsListOf : BookParts → List Unbooked → Type 0
IsListOf book unbooked = WereUnbookedFrom 0 book unbooked

-- these notes are those of two lists, each of which keeps its order: every note is one of one list, exactly once
abbrev pub AreMerged : List Note → List Note → List Note → Type 0
AreMerged [] ones others = (ones ≡ []) × (others ≡ [])
AreMerged (note ∷ notes) ones others =
    ((rest : List Note) × (ones ≡ note ∷ rest) × AreMerged notes rest others)
    ⊎ ((rest : List Note) × (others ≡ note ∷ rest) × AreMerged notes ones rest)

-- these notes of a venue are those that the book has of it and those that are listed of it
abbrev pub AreToldOnce : CountedParts → ℕ → List Note → Type 0
AreToldOnce counted venue notes =
    AreMerged notes (moved_of venue counted.book.entries)
    (map (λ item. item.note) (unbooked_of venue counted.unbooked))

-- Each note that was given is an entry of the book or is listed, exactly once.
use Rattle.std.proofs.Common.{◌≡◌, ℕ, List, [], ◌∷◌, map, Some, inl, inr, refl, sym, ◌∙◌, subst}
use Rattle.dialect.specs.declared.note.Note.{Note}
use Rattle.share_ledger.specs.declared.applied.Applied.TheVariants as applied
use Rattle.exec_collector.specs.declared.booking.Booking.{Booking}
use Rattle.exec_collector.specs.declared.booking.Booking.TheVariants.{Given, Asked}
use Rattle.exec_collector.specs.declared.unbooked.Unbooked.{Unbooked}
use Rattle.exec_collector.specs.Booked.{IsKept, moved_of, moved_among, notes_of}
use Rattle.exec_collector.specs.Seats.{Seat}
use Rattle.exec_collector.specs.Unbooked.{CountedParts, WereUnbooked, AreMerged, AreToldOnce, unbooked_of, unbooked_among}

abbrev listed : List Unbooked → List Note
listed unbooked = map (λ item. item.note) unbooked

merged : (venue : ℕ) (bookings : List Booking)
    → AreMerged (notes_of bookings) (moved_among bookings) (listed (unbooked_among venue bookings))
merged venue [] = (refl, refl)
merged venue (Given note applied.Moved entries ∷ rest) = inl (moved_among rest, refl, merged venue rest)
merged venue (Given note applied.Duplicate entries ∷ rest) =
    inr (listed (unbooked_among venue rest), refl, merged venue rest)
merged venue (Given note applied.Overfill entries ∷ rest) =
    inr (listed (unbooked_among venue rest), refl, merged venue rest)
merged venue (Given note applied.Stray entries ∷ rest) =
    inr (listed (unbooked_among venue rest), refl, merged venue rest)
merged venue (Asked id withdrawn entries ∷ rest) = merged venue rest

same_venue : (seat : Seat) (a b : ℕ) → seat.venue ≡ Some a → seat.venue ≡ Some b → a ≡ b
same_venue seat a b one other = (let e = sym one ∙ other in cc)

pub told_once : (counted : CountedParts) (seat : Seat) (venue : ℕ) → seat.venue ≡ Some venue
    → IsKept counted.book seat → WereUnbooked counted.unbooked seat → AreToldOnce counted venue seat.booked
told_once counted seat venue of_venue kept were =
    let moved : moved_of venue counted.book.entries ≡ moved_among seat.bookings =
    subst (λ v. moved_of v counted.book.entries ≡ moved_among seat.bookings)
    (same_venue seat kept.venue venue kept.of_venue of_venue) kept.booked.history.moved in
    let left : unbooked_of venue counted.unbooked ≡ unbooked_among venue seat.bookings =
    subst (λ v. unbooked_of v counted.unbooked ≡ unbooked_among v seat.bookings)
    (same_venue seat were.venue venue were.of_venue of_venue) were.listed in
    subst (λ notes. AreMerged notes (moved_of venue counted.book.entries) (listed (unbooked_of venue counted.unbooked)))
    (sym kept.notes)
    (subst (λ ones. AreMerged (notes_of seat.bookings) ones (listed (unbooked_of venue counted.unbooked))) (sym moved)
    (subst (λ others. AreMerged (notes_of seat.bookings) (moved_among seat.bookings) (listed others)) (sym left)
    (merged venue seat.bookings)))

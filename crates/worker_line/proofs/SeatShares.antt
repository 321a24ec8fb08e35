-- The shares of a venue's legs, as they are in a book on whose side stands what stands on the venue's seat.
use Rattle.std.proofs.Common.{◌≡◌, ℕ, List, Some, sym, ◌∙◌, subst}
use Rattle.std.specs.Prelude.{slice_get}
use Rattle.std.specs.List.{All, Contains, IsDistinct}
use Rattle.std.proofs.lemmas.List.Elements.{All-get_or}
use Rattle.std.proofs.lemmas.Option.{same_Some, slice_get_within, get_or_from_slice_get}
use Rattle.leg.specs.LegId.{LegIdParts}
use Rattle.dialect.specs.declared.note.Note.{Note}
use Rattle.share_ledger.specs.Book.{BookParts}
use Rattle.share_ledger.specs.Entries.{is_same_leg}
use Rattle.exec_collector.specs.Resolved.{Replays}
use Rattle.exec_collector.specs.Seats.{Seat}
use Rattle.exec_collector.specs.Booked.{AreBooked, IsKept}
use Rattle.exec_collector.specs.Unbooked.{CountedParts, WereUnbooked, AreToldOnce}
use Rattle.exec_collector.proofs.Telling.{told_once}
use Rattle.worker_line.specs.Shares.{AreSpared, AreShares}
use Rattle.worker_line.proofs.Shares.{ruled_by, only_asked}
use Rattle.worker_line.proofs.Refused.{refused_for}

pub shares_kept : (book : BookParts) (venue : ℕ) (seat : Seat) (given : List Note) (asked : List LegIdParts)
    → Replays book → IsKept book seat → seat.venue ≡ Some venue → seat.booked ≡ given → seat.asked ≡ asked
    → IsDistinct is_same_leg asked → AreSpared given asked → AreShares book venue given asked
shares_kept book venue seat given asked replays kept of_venue is legs once spared =
    let same = same_Some kept.venue venue (sym kept.of_venue ∙ of_venue) in
    let booked = subst (λ v. AreBooked v book seat.bookings) same kept.booked in
    let all = sym kept.legs ∙ legs in
    let notes = sym kept.notes ∙ is in
    record {
      bookings = seat.bookings;
      notes = notes;
      legs = all;
      booked = booked;
      each_leg = ruled_by book replays venue seat.bookings booked.history;
      only_asked = only_asked book venue seat.bookings asked booked.history all;
      once = once;
      spared = spared;
      refused = refused_for book replays venue seat.bookings booked (subst (IsDistinct is_same_leg) (sym all) once)
          (λ id note here there. spared id note (subst (λ l. Contains l id) all here)
          (subst (λ l. Contains l note) notes there));
    }

-- what holds of each seat holds of the one at a venue's place
seat_at : (P : Seat → Type 0) (seats : List Seat) (venue : ℕ) (seat : Seat) → slice_get seats venue ≡ Some seat
    → All P seats → P seat
seat_at P seats venue seat there all =
    subst P (get_or_from_slice_get seats venue seat seat there)
    (All-get_or P seats venue seat (slice_get_within seats venue seat there) all)

-- so it is of the seat at a venue's place, where each seat is kept
pub shares_at : (book : BookParts) (seats : List Seat) (venue : ℕ) (seat : Seat) (given : List Note)
    (asked : List LegIdParts) → Replays book → All (IsKept book) seats → slice_get seats venue ≡ Some seat
    → seat.venue ≡ Some venue → seat.booked ≡ given → seat.asked ≡ asked → IsDistinct is_same_leg asked
    → AreSpared given asked → AreShares book venue given asked
shares_at book seats venue seat given asked replays kept there of_venue is legs once spared =
    shares_kept book venue seat given asked replays (seat_at (IsKept book) seats venue seat there kept) of_venue is legs
    once spared

-- and each note given is an entry of the book or listed, exactly once
pub told_at : (counted : CountedParts) (seats : List Seat) (venue : ℕ) (seat : Seat) (given : List Note)
    → All (IsKept counted.book) seats → All (WereUnbooked counted.unbooked) seats → slice_get seats venue ≡ Some seat
    → seat.venue ≡ Some venue → seat.booked ≡ given → AreToldOnce counted venue given
told_at counted seats venue seat given kept left there of_venue is =
    subst (AreToldOnce counted venue) is
    (told_once counted seat venue of_venue (seat_at (IsKept counted.book) seats venue seat there kept)
    (seat_at (WereUnbooked counted.unbooked) seats venue seat there left))

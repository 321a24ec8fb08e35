-- The sides of the venues' bookings that the book keeps.
use Rattle.std.specs.Prelude.{◌≡◌, ℕ, suc, List, [], ◌∷◌, ◌++◌, Some, slice_get, slice_set}
use Rattle.share_ledger.specs.Book.{BookParts}
use Rattle.exec_collector.specs.Booked.{AreBooked}
use Rattle.exec_collector.specs.Unbooked.{unbooked_of, unbooked_among}
use Rattle.exec_collector.specs.declared.booking.Booking.{Booking}
use Rattle.exec_collector.specs.declared.unbooked.Unbooked.{Unbooked}
use Rattle.exec_collector.specs.declared.venue_bookings.VenueBookings.{VenueBookings}

-- what the book took of the venues from this one on stands on these sides
abbrev pub AreWritten : BookParts → ℕ → List VenueBookings → Type 0
AreWritten book venue [] = Unit {0}
AreWritten book venue (first ∷ rest) = AreBooked venue book first.side.items × AreWritten book (suc venue) rest

-- of the venues from this one on, the list has just the notes that stand on these sides and that the book didn't take
abbrev pub AreListed : List Unbooked → ℕ → List VenueBookings → Type 0
AreListed unbooked venue [] = Unit {0}
AreListed unbooked venue (first ∷ rest) =
    (unbooked_of venue unbooked ≡ unbooked_among venue first.side.items) × AreListed unbooked (suc venue) rest

-- a booking is one more on the side of this venue, and the others are as they were
pub record IsOneMore (venue : ℕ) (booking : Booking) (before after : List VenueBookings) : Type 0 where
  pub side : VenueBookings
  pub more : VenueBookings
  pub there : slice_get before venue ≡ Some side
  pub is_more : more.side.items ≡ side.side.items ++ booking ∷ []
  pub set_there : after ≡ slice_set before venue more

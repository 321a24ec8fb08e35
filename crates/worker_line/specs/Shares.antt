-- The shares of a venue's legs in the book, by the notes that were given to it and the legs that it was asked to
-- withdraw.
use Rattle.std.specs.Prelude.{◌≡◌, ℕ, Bool, true, false, List, map, filter, take, Some, None}
use Rattle.std.specs.List.{Contains, IsDistinct, list_any}
use Rattle.leg.specs.LegId.{LegIdParts}
use Rattle.leg.specs.Split.{leg_shares}
use Rattle.leg.specs.declared.sweep.Routed.{Routed}
use Rattle.dialect.specs.declared.note.Note.{Note}
use Rattle.share_ledger.specs.Book.{BookParts, leg_parts}
use Rattle.share_ledger.specs.Entries.{order_of, is_same_leg, is_withdrawn, is_about}
use Rattle.share_ledger.specs.Shares.{move_of, parts_of}
use Rattle.exec_collector.specs.declared.booking.Booking.{Booking}
use Rattle.exec_collector.specs.declared.booking.Booking.TheVariants.{Asked}
use Rattle.exec_collector.specs.Booked.{moved_among, withdrawn_among, notes_of, asked_of, AreBooked}

-- whether a leg is among these
abbrev pub is_among : LegIdParts → List LegIdParts → Bool
is_among id ids = list_any (λ leg. is_same_leg leg id) ids

-- a leg's parts are what the share rule makes of the notes on it, among those that moved, and of its withdrawal if the
-- book withdrew it; and they add up to its shares
pub record HasParts (book : BookParts) (bookings : List Booking) (id : LegIdParts) (routed : Routed) : Type 0 where
  pub withdrawn : is_withdrawn id book.entries ≡ is_among id (withdrawn_among bookings)
  pub parts : leg_parts id routed.terms.shares book
      ≡ parts_of routed.terms.shares (is_among id (withdrawn_among bookings))
      (map move_of (filter (is_about id) (moved_among bookings)))
  pub adds_up : leg_shares (leg_parts id routed.terms.shares book) ≡ routed.terms.shares

-- no note given is on a leg that was asked for
abbrev pub AreSpared : List Note → List LegIdParts → Type 0
AreSpared given asked =
    (id : LegIdParts) (note : Note) → Contains asked id → Contains given note → is_about id note ≡ false

-- the notes that a venue's worker gave, and the legs that it asked to be withdrawn, are those that the book took of it,
-- in order: each was answered by the book's rule, and what the history has of the venue are just the notes that moved
-- and the legs that the book withdrew. These rule each leg of the venue; none is withdrawn but one that was asked for.
-- None was asked for twice, and no note given is on one that was; so of the venue's legs the book refused none but one
-- that it didn't have yet
pub record AreShares (book : BookParts) (venue : ℕ) (given : List Note) (asked : List LegIdParts) : Type 0 where
  pub bookings : List Booking
  pub notes : notes_of bookings ≡ given
  pub legs : asked_of bookings ≡ asked
  pub booked : AreBooked venue book bookings
  pub each_leg : (id : LegIdParts) (routed : Routed) → order_of id book.entries ≡ Some routed → routed.venue ≡ venue
      → HasParts book bookings id routed
  pub only_asked : (id : LegIdParts) (routed : Routed) → order_of id book.entries ≡ Some routed → routed.venue ≡ venue
      → is_withdrawn id book.entries ≡ true → is_among id asked ≡ true
  pub once : IsDistinct is_same_leg asked
  pub spared : AreSpared given asked
  pub refused : (id : LegIdParts) (routed : Routed) → order_of id book.entries ≡ Some routed → routed.venue ≡ venue
      → (count : ℕ) → Contains bookings (Asked id false count) → order_of id (take count book.entries) ≡ None

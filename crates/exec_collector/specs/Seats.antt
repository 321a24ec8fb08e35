-- The seats of a count.
use Rattle.std.specs.Prelude.{ℕ, zero, suc, List, [], ◌∷◌, ◌++◌, Option, Some, None, sum_by}
use Rattle.leg.specs.LegId.{LegIdParts}
use Rattle.dialect.specs.declared.note.Note.{Note}
use Rattle.exec_collector.specs.declared.booking.Booking.{Booking}
use Rattle.exec_collector.specs.declared.placed_sweep.PlacedSweep.{PlacedSweep}

-- a seat: its parts of the count, the shares counted on it, the venue whose worker has it, if one has, the notes booked
-- and the legs asked to be withdrawn on it, in order, all of these with what the book made of them, and the sweeps that
-- a caller placed, in order
pub record Seat : Type 0 where
  pub parts : ℕ
  pub shares : ℕ
  pub venue : Option ℕ
  pub booked : List Note
  pub asked : List LegIdParts
  pub bookings : List Booking
  pub placed : List PlacedSweep

-- a seat of one part on which nothing was counted yet
abbrev pub new_seat : Seat
new_seat = record { parts = 1; shares = 0; venue = None; booked = []; asked = []; bookings = []; placed = [] }

-- such a seat for the worker of a venue, on which nothing was asked of the book yet
abbrev pub worker_seat : ℕ → Seat
worker_seat venue = record new_seat { venue = Some venue }

-- those of so many venues, in order
abbrev pub worker_seats : ℕ → List Seat
worker_seats zero = []
worker_seats (suc venue) = worker_seats venue ++ worker_seat venue ∷ []

-- the parts of some seats, and their shares
abbrev pub parts_of : List Seat → ℕ
parts_of seats = sum_by (λ seat. seat.parts) seats

abbrev pub shares_of : List Seat → ℕ
shares_of seats = sum_by (λ seat. seat.shares) seats

use Rattle.std.proofs.Common.{[], ◌∷◌, ◌++◌, ap, ◌∙◌}
use Rattle.std.proofs.lemmas.List.{append-nil}
use Rattle.exec_collector.specs.Booked.{notes_of, asked_of}
use Rattle.exec_collector.specs.Seats.{Seat}
use Rattle.exec_collector.specs.declared.booking.Booking.{Booking}
use Rattle.exec_collector.proofs.venue_bookings.add_withdrawal.Goals as goal

pub returns-clause-seat : goal.returns-clause-seat
returns-clause-seat g c =
    let seat : Seat = c.args.seat.now in
    c.add_booking.ensures.seat
    ∙ (ap (λ (b : Booking). record seat {
      booked = seat.booked ++ notes_of (b ∷ []);
      asked = seat.asked ++ asked_of (b ∷ []);
      bookings = seat.bookings ++ g.booking ∷ [];
    }) c.requires.1.1 ∙ ap (λ booked. record seat {
      booked = booked;
      asked = seat.asked ++ c.args.id ∷ [];
      bookings = seat.bookings ++ g.booking ∷ [];
    }) (append-nil seat.booked))

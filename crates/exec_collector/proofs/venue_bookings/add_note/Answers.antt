use Rattle.std.proofs.Common.{[], ◌∷◌, ◌++◌, ap, ◌∙◌}
use Rattle.std.proofs.lemmas.List.{append-nil}
use Rattle.exec_collector.specs.Booked.{notes_of, asked_of}
use Rattle.exec_collector.specs.Seats.{Seat}
use Rattle.exec_collector.specs.declared.booking.Booking.{Booking}
use Rattle.exec_collector.proofs.venue_bookings.add_note.Goals as goal

pub returns-clause-seat : goal.returns-clause-seat
returns-clause-seat g c =
    let seat : Seat = c.args.seat.now in
    c.add_booking.ensures.seat
    ∙ (ap (λ (b : Booking). record seat {
      booked = seat.booked ++ notes_of (b ∷ []);
      asked = seat.asked ++ asked_of (b ∷ []);
      bookings = seat.bookings ++ g.booking ∷ [];
    }) c.requires.1.1 ∙ ap (λ asked. record seat {
      booked = seat.booked ++ c.args.note.now ∷ [];
      asked = asked;
      bookings = seat.bookings ++ g.booking ∷ [];
    }) (append-nil seat.asked))

use Rattle.std.proofs.Common.{◌≡◌, List, [], ◌∷◌, ◌++◌, Some, ap, ◌∙◌}
use Rattle.exec_collector.specs.Booked.{notes_of, asked_of}
use Rattle.exec_collector.specs.Seats.{Seat}
use Rattle.exec_collector.specs.declared.booking.Booking.{Booking}
use Rattle.exec_collector.proofs.Booked.{notes-append, asked-append}
use Rattle.exec_collector.proofs.worker_seat.WorkerSeat.book.Goals as goal

pub returns-clause-seat : goal.returns-clause-seat
returns-clause-seat g c =
    let seat = c.self.inside in
    let items = seat.bookings.items in
    let last : List Booking = g.booking ∷ [] in
    let seen : List Booking → Seat = λ items. record {
      parts = seat.share.parts;
      shares = seat.share.amount;
      venue = Some seat.venue;
      booked = notes_of items;
      asked = asked_of items;
      bookings = items;
      placed = [];
    } in
    let more : seen (items ++ last) ≡ record (seen items) {
      booked = notes_of items ++ notes_of last;
      asked = asked_of items ++ asked_of last;
      bookings = items ++ last;
    } = λ i. record (seen items) {
      booked = notes-append items last i;
      asked = asked-append items last i;
      bookings = items ++ last;
    } in
    ap seen c.push.ensures.seat.1
    ∙ (more ∙ ap (λ (s : Seat). record s {
      booked = s.booked ++ notes_of last;
      asked = s.asked ++ asked_of last;
      bookings = s.bookings ++ last;
    }) c.self.view_is)

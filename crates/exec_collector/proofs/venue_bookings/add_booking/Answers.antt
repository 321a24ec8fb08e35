use Rattle.std.proofs.Common.{ap, ◌∙◌}
use Rattle.std.proofs.Math.Seq.{map-set_same}
use Rattle.exec_collector.specs.declared.venue_bookings.VenueBookings.{VenueBookings}
use Rattle.exec_collector.proofs.venue_bookings.add_booking.Goals as goal

pub returns-clause-lists : goal.returns-clause-lists
returns-clause-lists g c =
    let old = c.in-Some.venue.now in
    map-set_same (λ (v : VenueBookings). v.side.name) c.args.bookings.now.items c.from.result
    (record { venue = old.venue; side = c.book.new.side }) old
    (c.book.ensures.side.0 ∙ ap (λ (v : VenueBookings). v.side.name) c.in-Some.ensures.value) ∙ c.requires.1

use Rattle.exec_collector.proofs.venue_bookings.add_booking.Given as goal

abbrev pub ghost-book : goal.ghost-book
ghost-book g a = g.booking

use Rattle.exec_collector.proofs.venue_bookings.add_withdrawal.Given as goal

abbrev pub ghost-add_booking : goal.ghost-add_booking
ghost-add_booking g a = g.booking

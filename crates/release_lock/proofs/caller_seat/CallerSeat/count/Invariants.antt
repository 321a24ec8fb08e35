use Rattle.release_lock.proofs.caller_seat.CallerSeat.count.Given as goal

abbrev pub ghost-give : goal.ghost-give
ghost-give g a = g.placed

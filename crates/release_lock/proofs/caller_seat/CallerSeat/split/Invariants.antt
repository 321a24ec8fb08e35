use Rattle.release_lock.proofs.caller_seat.CallerSeat.split.Given as goal

abbrev pub ghost-no_slips : goal.ghost-no_slips
ghost-no_slips g a = g.L.Run.slips

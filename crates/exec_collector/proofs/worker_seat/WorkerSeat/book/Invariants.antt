use Rattle.exec_collector.proofs.worker_seat.WorkerSeat.book.Given as goal

abbrev pub ghost-push : goal.ghost-push
ghost-push g a = g.booking

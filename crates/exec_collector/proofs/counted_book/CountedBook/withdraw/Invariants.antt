use Rattle.exec_collector.specs.declared.booking.Booking.TheVariants.{Asked}
use Rattle.exec_collector.proofs.counted_book.CountedBook.withdraw.Given as goal

abbrev pub ghost-add_withdrawal : goal.ghost-add_withdrawal
ghost-add_withdrawal g a = Asked a.id a.withdrawn a.entries

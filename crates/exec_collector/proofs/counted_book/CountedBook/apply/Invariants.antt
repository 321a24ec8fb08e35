use Rattle.exec_collector.specs.declared.booking.Booking.TheVariants.{Given}
use Rattle.exec_collector.proofs.counted_book.CountedBook.apply.Given as goal

abbrev pub ghost-add_note : goal.ghost-add_note
ghost-add_note g a = Given a.note.now a.answer a.entries

use Rattle.exec_collector.specs.Unbooked.{without_room}
use Rattle.exec_collector.proofs.Keeping.{beside_new}
use Rattle.exec_collector.proofs.day_book.DayBook.new.Goals as goal

pub invariant_of-result : goal.invariant_of-result
invariant_of-result g c =
    beside_new (without_room c.args.counted) c.new.result c.requires.book c.requires.unbooked c.new.ensures.words
    c.new.ensures.worths c.new.ensures.disputed

use Rattle.exec_collector.specs.Unbooked.{without_room}
use Rattle.exec_collector.proofs.Keeping.{beside_lent}
use Rattle.exec_collector.proofs.day_book.DayBook.lend_beside.Goals as goal

pub invariant_of-self : goal.invariant_of-self
invariant_of-self g c =
    beside_lent (without_room c.self.inside.counted) (without_room c.lend_beside.new.self) c.self.inside.beside
    (c.requires.opens c.args.beside.now c.self.inside.counted.book c.lend_beside.result c.lend_beside.new.beside
    c.lend_beside.new.self.book c.lend_beside.ensures.call)
    c.lend_beside.ensures.unbooked.0 c.self.invariant

use Rattle.exec_collector.specs.Unbooked.{without_room}
use Rattle.exec_collector.proofs.Keeping.{beside_lent}
use Rattle.exec_collector.proofs.day_book.DayBook.lend.Goals as goal

pub invariant_of-self : goal.invariant_of-self
invariant_of-self g c =
    beside_lent (without_room c.self.inside.counted) (without_room c.lend.new.self) c.self.inside.beside
    (c.requires.opens c.self.inside.counted.book c.lend.result c.lend.new.self.book c.lend.ensures.call)
    c.lend.ensures.unbooked.0 c.self.invariant

use Rattle.exec_collector.specs.Unbooked.{without_room}
use Rattle.exec_collector.proofs.Keeping.{beside_asked}
use Rattle.exec_collector.proofs.day_book.DayBook.withdraw.Goals as goal

pub invariant_of-self : goal.invariant_of-self
invariant_of-self g c =
    beside_asked c.args.seat.now.venue (without_room c.self.inside.counted) (without_room c.withdraw.new.self) c.args.id c.withdraw.result
    c.self.inside.beside c.withdraw.ensures.of_venue c.withdraw.ensures.book c.withdraw.ensures.unbooked.0
    c.self.invariant

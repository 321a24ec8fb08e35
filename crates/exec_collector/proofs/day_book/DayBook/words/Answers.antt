use Rattle.std.proofs.Common.{◌≡◌, length, subst}
use Rattle.exec_collector.specs.Day.{DayParts, note_count}
use Rattle.exec_collector.specs.Unbooked.{without_room}
use Rattle.exec_collector.proofs.day_book.DayBook.words.Goals as goal

pub returns-clause-one_each : goal.returns-clause-one_each
returns-clause-one_each g c =
    subst (λ (d : DayParts). length d.words ≡ note_count (without_room d.counted)) c.self.view_is c.self.invariant.words

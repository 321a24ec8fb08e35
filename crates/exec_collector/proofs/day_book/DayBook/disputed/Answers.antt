use Rattle.std.proofs.Common.{ap, min, ◌∙◌}
use Rattle.exec_collector.specs.Day.{DayParts, disputed}
use Rattle.exec_collector.proofs.day_book.DayBook.disputed.Goals as goal

pub returns : goal.returns
returns g c =
    c.shares.ensures
    ∙ (c.self.invariant.disputed c.args.id
    ∙ ap (λ (d : DayParts). min (disputed c.args.id d.counted.unbooked) 18446744073709551615) c.self.view_is)

use Rattle.std.proofs.Common.{ap, min, ◌∙◌}
use Rattle.exec_collector.specs.Day.{DayParts, disputed, disputed_at, disputed_below}
use Rattle.exec_collector.proofs.Summing.{disputed_same}
use Rattle.exec_collector.proofs.day_book.DayBook.sweep_disputed.Goals as goal

pub returns : goal.returns
returns g c =
    c.sweep.ensures
    ∙ (disputed_same (disputed_at c.self.inside.beside.disputed)
    (λ id. min (disputed id c.self.inside.counted.unbooked) 18446744073709551615) c.self.invariant.disputed
    c.args.number 32
    ∙ ap (λ (d : DayParts). disputed_below (λ id. min (disputed id d.counted.unbooked) 18446744073709551615)
    c.args.number 32) c.self.view_is)

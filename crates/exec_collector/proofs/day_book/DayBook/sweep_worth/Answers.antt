use Rattle.std.proofs.Common.{ap, ◌∙◌}
use Rattle.leg_worth.specs.Kept.{worth_at}
use Rattle.leg_worth.specs.Worth.{capped, leg_worth, sweep_worth}
use Rattle.leg_worth.proofs.Capping.{below_same}
use Rattle.exec_collector.specs.Day.{DayParts}
use Rattle.exec_collector.proofs.day_book.DayBook.sweep_worth.Goals as goal

pub returns : goal.returns
returns g c =
    c.sweep.ensures
    ∙ (ap capped (below_same (worth_at c.self.inside.beside.worths) (leg_worth c.self.inside.counted.book)
    c.self.invariant.worths.legs c.args.number 32)
    ∙ ap (λ (d : DayParts). capped (sweep_worth d.counted.book c.args.number)) c.self.view_is)

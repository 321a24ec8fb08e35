use Rattle.std.proofs.Common.{ap, ◌∙◌}
use Rattle.leg_worth.specs.Worth.{leg_worth}
use Rattle.exec_collector.specs.Day.{DayParts}
use Rattle.exec_collector.proofs.day_book.DayBook.worth.Goals as goal

pub returns : goal.returns
returns g c =
    c.leg.ensures
    ∙ (c.self.invariant.worths.legs c.args.id
    ∙ ap (λ (d : DayParts). leg_worth d.counted.book c.args.id) c.self.view_is)

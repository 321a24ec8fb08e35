use Rattle.std.proofs.Common.{◌∙◌}
use Rattle.release_lock.specs.Queues.{is_for}
use Rattle.release_lock.proofs.DayDollars.{pumped_each}
use Rattle.release_lock.proofs.locked_desk.LockedDesk.release_within.Goals as goal

pub returns-clause-dollars : goal.returns-clause-dollars
returns-clause-dollars g c =
    pumped_each (λ venue. is_for venue c.as_slice.result.now) _ c.place_sweep.new.self c.pump_each.new.locked
    (c.pump_each.ensures.desk (λ venue. is_for venue c.as_slice.result.now) c.of-venues.ensures)
    ∙ c.in_ok-receipt.ensures.dollars

use Rattle.std.proofs.Common.{option_map, ap, ◌∙◌}
use Rattle.order_limits.specs.Day.{judged_if}
use Rattle.release_lock.specs.Locked.{day_dollars}
use Rattle.release_lock.proofs.DayDollars.{judged_within}
use Rattle.release_lock.proofs.locked_desk.LockedDesk.judge.Goals as goal

pub returns-clause-within : goal.returns-clause-within
returns-clause-within g c =
    judged_within _ (day_dollars c.args.self.now) c.args.legs.now c.judge.result
    (c.judge.ensures.judged
    ∙ ap (λ placed. judged_if (option_map (λ l. l.now) c.args.asked.now.limits) placed c.args.legs.now)
    (c.self.invariant.4.sum ∙ ap day_dollars c.self.view_is))

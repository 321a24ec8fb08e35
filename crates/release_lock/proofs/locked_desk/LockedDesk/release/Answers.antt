use Rattle.release_lock.proofs.DayDollars.{placed_within}
use Rattle.release_lock.proofs.locked_desk.LockedDesk.release.Goals as goal

pub returns-in-Ok-release_within-clause-within : goal.returns-in-Ok-release_within-clause-within
returns-in-Ok-release_within-clause-within g c =
    placed_within _ c.args.sweep.legs c.as_slice.result.now c.args.self.now c.release_within.new.self c.in-Ok.day
    c.as_slice.ensures c.in-Ok.ensures.within c.in-Ok.ensures.sum c.in-Ok.ensures.limit
    c.in-Ok-release_within.ensures.dollars

use Rattle.std.proofs.Common.{rules}
use Rattle.day_check.proofs.Upto.{one_count_more}
use Rattle.day_check.proofs.tallies.count.Goals as goal

pub loop-place-preserved : goal.loop-place-preserved
loop-place-preserved c =
    one_count_more c.loop-place.place c.args.verdicts.now c.args.tallies.now c.loop-place.tallies _ _ c.with.result
    c.loop-place.invariant c.with.ensures (search rules)

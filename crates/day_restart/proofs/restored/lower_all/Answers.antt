use Rattle.std.proofs.Common.{◌∙◌}
use Rattle.release_lock.proofs.Turning.{turned_sweeps}
use Rattle.release_lock.proofs.Holding.{lowers_turn}
use Rattle.day_restart.proofs.restored.lower_all.Goals as goal

pub loop-start-preserved : goal.loop-start-preserved
loop-start-preserved g c =
    turned_sweeps c.loop-start.desk c.lower.new.desk
    (lowers_turn c.loop-start.desk c.lower.new.desk c.lower.ensures.lowers) ∙ c.loop-start.invariant

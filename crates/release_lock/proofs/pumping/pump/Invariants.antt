use Rattle.sweep_release.specs.Desk.{placed}
use Rattle.release_lock.proofs.Leaving.{Pumping}
use Rattle.release_lock.proofs.pumping.pump.Given as goal

abbrev pub invariant-loop-leg : goal.invariant-loop-leg
invariant-loop-leg g l = Pumping l.venue l.fn.desk l.fn.feed l.desk l.feed

abbrev pub decreases-loop-leg : goal.decreases-loop-leg
decreases-loop-leg g l = placed l.desk.desk l.venue

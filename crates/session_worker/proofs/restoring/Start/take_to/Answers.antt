use Rattle.std.proofs.Common.{refl, subst}
use Rattle.std.specs.Prelude.{Option, None}
use Rattle.leg.specs.declared.placed_leg.PlacedLeg.{PlacedLeg}
use Rattle.session_worker.specs.Restoring.{StartParts, note_in, TakesMore}
use Rattle.session_worker.proofs.Redone.{start_of, takes_here, takes_one, takes_on}
use Rattle.session_worker.proofs.restoring.Start.take_to.Goals as goal

pub loop-init : goal.loop-init
loop-init g c = takes_here _

use Rattle.day_restart.proofs.Places.{EndedTo}
use Rattle.day_restart.proofs.restored.end_each.Given as goal

abbrev pub invariant-loop-place : goal.invariant-loop-place
invariant-loop-place g l = EndedTo l.place l.initial.starts l.starts

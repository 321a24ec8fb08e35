use Rattle.std.proofs.Common.{◌≡◌, take}
use Rattle.desk_floor.proofs.refs.copy_of.Given as goal

abbrev pub invariant-loop-leg : goal.invariant-loop-leg
invariant-loop-leg l = l.copy.items ≡ take l.leg-index l.legs

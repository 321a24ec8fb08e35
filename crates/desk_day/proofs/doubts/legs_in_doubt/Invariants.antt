use Rattle.std.proofs.Common.{◌≡◌, take}
use Rattle.desk_day.specs.Doubts.{legs_in_doubt}
use Rattle.desk_day.proofs.doubts.legs_in_doubt.Given as goal

abbrev pub invariant-loop-placed : goal.invariant-loop-placed
invariant-loop-placed g l = l.legs.items ≡ legs_in_doubt l.end-inside.session (take l.placed-index l.taken)

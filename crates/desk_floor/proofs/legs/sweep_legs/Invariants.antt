use Rattle.std.proofs.Common.{◌-◌, length}
use Rattle.desk_floor.specs.Legs.{ArePlaces}
use Rattle.desk_floor.proofs.legs.sweep_legs.Given as goal

abbrev pub invariant-loop-place : goal.invariant-loop-place
invariant-loop-place g l = ArePlaces (length l.floor.views.items) l.number (l.place - 1) l.legs.items

use Rattle.std.proofs.Common.{◌≡◌, ◌++◌, filter_map, take}
use Rattle.desk_floor.specs.Changes.{sweep_said}
use Rattle.desk_floor.proofs.changes.note_unbooked.Given as goal

abbrev pub invariant-loop-item : goal.invariant-loop-item
invariant-loop-item l =
    l.sweeps.items ≡ l.initial.sweeps.items ++ filter_map sweep_said (take l.item-index l.unbooked)

use Rattle.std.proofs.Common.{◌≡◌}
use Rattle.std.specs.Vec.Iter.{into_iter_items}
use Rattle.schedule.specs.Happening.{withdrawn_in}
use Rattle.replay.proofs.telling.withdraw_all.Given as goal

abbrev pub invariant-loop-id : goal.invariant-loop-id
invariant-loop-id l = goal.iterator-loop-id.can_next l.id-iterator
    × goal.iterator-loop-id.is_finite l.id-iterator
    × (withdrawn_in l.book (into_iter_items l.id-iterator) ≡ withdrawn_in l.initial.book l.fn.ids.items)

use Rattle.std.proofs.Common.{◌≡◌}
use Rattle.std.specs.Vec.Iter.{into_iter_items}
use Rattle.schedule.specs.Happening.{happen, run}
use Rattle.replay.proofs.running.run.Given as goal

abbrev pub invariant-loop-event : goal.invariant-loop-event
invariant-loop-event g l = (goal.iterator-loop-event g).can_next l.event-iterator
    × (goal.iterator-loop-event g).is_finite l.event-iterator
    × (happen (into_iter_items l.event-iterator) l.world ≡ run l.fn.next l.fn.max_number l.fn.events.items)

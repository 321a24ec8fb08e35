use Rattle.std.proofs.Common.{◌≡◌, ◌≤◌, ◌+◌, length, map, take}
use Rattle.std.specs.Prelude.{vec_len, vec_capacity}
use Rattle.std.specs.Vec.Iter.{into_iter_items}
use Rattle.schedule.specs.World.{new_venue}
use Rattle.replay.proofs.world.opening.new_venues.Given as goal

abbrev pub invariant-loop-dialect : goal.invariant-loop-dialect
invariant-loop-dialect g l = (goal.iterator-loop-dialect g).can_next l.dialect-iterator
    × (goal.iterator-loop-dialect g).is_finite l.dialect-iterator
    × (l.venues.items ≡ map (new_venue l.max_number) (take (length l.venues.items) l.next))
    × (length l.venues.items + length (into_iter_items l.dialect-iterator) ≡ length l.next)
    × (vec_len l.venues + length (into_iter_items l.dialect-iterator) ≤ vec_capacity l.venues)

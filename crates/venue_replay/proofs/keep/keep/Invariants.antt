use Rattle.std.proofs.Common.{◌≡◌, ◌≤◌, ◌+◌, ◌++◌, length}
use Rattle.std.specs.Prelude.{vec_len, vec_capacity}
use Rattle.std.specs.Vec.Iter.{into_iter_items}
use Rattle.venue_replay.specs.AtVenue.{written_in}
use Rattle.venue_replay.proofs.keep.keep.Given as goal

abbrev pub invariant-loop-bytes : goal.invariant-loop-bytes
invariant-loop-bytes l = goal.iterator-loop-bytes.can_next l.bytes-iterator
    × goal.iterator-loop-bytes.is_finite l.bytes-iterator
    × (l.kept.items ++ written_in l.connection (into_iter_items l.bytes-iterator) ≡ l.initial.kept.items ++ written_in l.connection l.fn.written.items)
    × (vec_len l.kept + length (into_iter_items l.bytes-iterator) ≤ vec_capacity l.kept)

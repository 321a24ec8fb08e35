use Rattle.std.proofs.Common.{◌≡◌, ◌-◌, ◌++◌}
use Rattle.std.specs.VecDeque.Iter.{deque_iter_rest}
use Rattle.desk_floor.specs.Refused.{last_of}
use Rattle.desk_floor.proofs.refusals.Kept.since.Given as goal

abbrev pub invariant-loop-refusal : goal.invariant-loop-refusal
invariant-loop-refusal l =
    l.refusals.items ++ deque_iter_rest l.refusal-iterator ≡ last_of (l.self.number - l.fn.number) l.self.last.items

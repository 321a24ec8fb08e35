use Rattle.std.proofs.Common.{◌≡◌, ◌≤◌, length, map, take}
use Rattle.std.specs.Prelude.{vec_capacity, vec_len}
use Rattle.replay.specs.DaySeen.{new_parts}
use Rattle.replay.proofs.day.new_journals.Given as goal

abbrev pub invariant-loop-next : goal.invariant-loop-next
invariant-loop-next l = record {
  parts : l.journals.items ≡ map new_parts (take l.next-index l.next);
  count : vec_len l.journals ≡ l.next-index;
  room : length l.next ≤ vec_capacity l.journals;
}

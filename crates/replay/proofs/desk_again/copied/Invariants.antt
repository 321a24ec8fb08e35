use Rattle.std.proofs.Common.{◌≡◌, ◌≤◌, length, take}
use Rattle.std.specs.Prelude.{vec_capacity, vec_len}
use Rattle.replay.proofs.desk_again.copied.Given as goal

abbrev pub invariant-loop-routed : goal.invariant-loop-routed
invariant-loop-routed l = record {
  legs : l.copy.items ≡ take l.routed-index l.legs;
  count : vec_len l.copy ≡ l.routed-index;
  room : length l.legs ≤ vec_capacity l.copy;
}

use Rattle.std.proofs.Common.{◌≡◌, ◌≤◌, length, map, take}
use Rattle.std.specs.Prelude.{vec_capacity, vec_len}
use Rattle.share_ledger.specs.Kept.{opened_leg}
use Rattle.share_ledger.proofs.ledger.all_open.Given as goal

abbrev pub invariant-loop-routed : goal.invariant-loop-routed
invariant-loop-routed l = record {
  legs : l.open.items ≡ map opened_leg (take l.routed-index l.legs);
  count : vec_len l.open ≡ l.routed-index;
  room : length l.legs ≤ vec_capacity l.open;
}

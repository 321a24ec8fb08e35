use Rattle.std.proofs.Common.{◌≡◌, [], length}
use Rattle.replay.specs.Ruling.{IsOpenDesk}
use Rattle.replay.proofs.desk_again.open_desk.Given as goal

abbrev pub invariant-loop-number : goal.invariant-loop-number
invariant-loop-number l = record {
  sweeps : l.desk.desk.sweeps ≡ [];
  venues : length l.desk.desk.venues ≡ l.count;
  unshut : IsOpenDesk l.desk.desk;
}

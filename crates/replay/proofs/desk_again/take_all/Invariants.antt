use Rattle.std.proofs.Common.{◌≡◌, length}
use Rattle.replay.specs.Ruling.{IsOpenDesk}
use Rattle.replay.proofs.desk_again.take_all.Given as goal

abbrev pub invariant-loop : goal.invariant-loop
invariant-loop l = record {
  sweeps : l.desk.desk.sweeps ≡ l.fn.desk.desk.sweeps;
  venues : length l.desk.desk.venues ≡ length l.fn.desk.desk.venues;
  unshut : IsOpenDesk l.desk.desk;
}

use Rattle.std.proofs.Common.{◌≡◌, [], ◌∷◌, ◌++◌, length}
use Rattle.replay.specs.Ruling.{IsOpenDesk}
use Rattle.replay.proofs.desk_again.release_again.Given as goal

abbrev pub invariant-loop-number : goal.invariant-loop-number
invariant-loop-number l = record {
  sweeps : l.desk.desk.sweeps ≡ l.fn.desk.desk.sweeps ++ l.legs ∷ [];
  venues : length l.desk.desk.venues ≡ length l.fn.desk.desk.venues;
  unshut : IsOpenDesk l.desk.desk;
}

use Rattle.std.proofs.Common.{◌≡◌, drop}
use Rattle.replay.specs.Redoing.{journals_by}
use Rattle.replay.specs.Starting.{all_keep}
use Rattle.replay.proofs.starting.unkept_rule.Given as goal

abbrev pub invariant-loop-number : goal.invariant-loop-number
invariant-loop-number g l = record {
  still : l.world ≡ l.fn.world;
  rules : all_keep l.fn.world l.desk.desk.sweeps l.lines l.number
      (drop l.number (journals_by l.max_number l.fn.world l.journals))
      ≡ all_keep l.fn.world l.desk.desk.sweeps l.lines 0 (journals_by l.max_number l.fn.world l.journals);
}

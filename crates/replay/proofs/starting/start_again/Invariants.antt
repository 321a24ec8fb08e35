use Rattle.std.proofs.Common.{◌≡◌}
use Rattle.replay.proofs.StartAll.{world_at, desk_at, journals_at}
use Rattle.replay.proofs.starting.start_again.Given as goal

abbrev pub invariant-loop-number : goal.invariant-loop-number
invariant-loop-number g l = record {
  world : l.world ≡ world_at l.max_number l.fn.world l.lines l.fn.journals.items l.fn.desk.desk l.number;
  desk : l.desk.desk ≡ desk_at l.max_number l.fn.world l.lines l.fn.journals.items l.fn.desk.desk l.number;
  journals : l.journals.items
      ≡ journals_at l.max_number l.fn.world l.lines l.fn.journals.items l.fn.desk.desk l.number;
}

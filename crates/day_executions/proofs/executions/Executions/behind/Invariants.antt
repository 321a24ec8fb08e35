use Rattle.std.proofs.Common.{◌≡◌, take, drop}
use Rattle.std.specs.List.{All}
use Rattle.day_executions.specs.Executions.{IsHeard, heard, numbered_from}
use Rattle.day_executions.specs.Walk.{AllFound}
use Rattle.day_executions.proofs.executions.Executions.behind.Given as goal

abbrev pub invariant-loop-at : goal.invariant-loop-at
invariant-loop-at l = record {
  told : All (IsHeard l.history l.unbooked) l.notes.items;
  notes : AllFound l.self.places.items l.history l.unbooked
      → l.notes.items ≡ take l.at (drop l.after (numbered_from 1 (heard l.history l.unbooked)));
}

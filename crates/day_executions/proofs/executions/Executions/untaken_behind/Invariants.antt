use Rattle.std.proofs.Common.{◌≡◌, ◌++◌, drop}
use Rattle.std.specs.Prelude.{filter}
use Rattle.std.specs.List.{All}
use Rattle.day_executions.specs.Executions.{IsLeft, heard, not_taken, numbered_from, untaken_behind}
use Rattle.day_executions.specs.Walk.{AllFound}
use Rattle.day_executions.proofs.executions.Executions.untaken_behind.Given as goal

abbrev pub invariant-loop-before : goal.invariant-loop-before
invariant-loop-before l = record {
  told : All (IsLeft l.history l.unbooked) l.notes.items;
  notes : AllFound l.self.places.items l.history l.unbooked
      → l.notes.items ++ filter (λ note. not_taken note.heard.answer)
      (drop l.before (numbered_from 1 (heard l.history l.unbooked)))
      ≡ untaken_behind l.after l.history l.unbooked;
}

use Rattle.day_executions.specs.Executions.{IsIndex}
use Rattle.day_executions.specs.Walk.{unseen}
use Rattle.day_executions.proofs.executions.Executions.look_to_end.Given as goal

abbrev pub invariant-loop : goal.invariant-loop
invariant-loop l = record {
  index : IsIndex l.initial.self.entries l.initial.self.items l.initial.self.places.items l.history l.unbooked
      → IsIndex l.self.entries l.self.items l.self.places.items l.history l.unbooked;
}

abbrev pub decreases-loop : goal.decreases-loop
decreases-loop l = unseen l.self.entries l.self.items l.history l.unbooked

use Rattle.day_executions.specs.Executions.{IsIndex}
use Rattle.day_executions.proofs.executions.Executions.look_on.Given as goal

abbrev pub invariant-loop-looked : goal.invariant-loop-looked
invariant-loop-looked l = record {
  index : IsIndex l.initial.self.entries l.initial.self.items l.initial.self.places.items l.history l.unbooked
      → IsIndex l.self.entries l.self.items l.self.places.items l.history l.unbooked;
}

use Rattle.std.proofs.Common.{◌≡◌, map}
use Rattle.day_executions.specs.Executions.{said_by}
use Rattle.day_executions.proofs.saying.with_words.Given as goal

abbrev pub invariant-loop-note : goal.invariant-loop-note
invariant-loop-note l = l.said.items ≡ map (said_by l.words) l.yielded

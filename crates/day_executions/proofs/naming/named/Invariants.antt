use Rattle.std.proofs.Common.{◌≡◌, filter_map}
use Rattle.day_executions.specs.Named.{execution_of}
use Rattle.day_executions.proofs.naming.named.Given as goal

abbrev pub invariant-loop-note : goal.invariant-loop-note
invariant-loop-note l = l.executions.items ≡ filter_map (execution_of l.names) l.yielded

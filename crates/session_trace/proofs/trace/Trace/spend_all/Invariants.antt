use Rattle.session_trace.specs.Shows.{Goes}
use Rattle.session_trace.proofs.trace.Trace.spend_all.Given as goal

abbrev pub invariant-loop : goal.invariant-loop
invariant-loop g l = Goes (g.D.Dialect.wording l.dialect) l.fn.self l.self

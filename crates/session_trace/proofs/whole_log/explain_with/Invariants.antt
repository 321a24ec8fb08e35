use Rattle.std.proofs.Common.{take}
use Rattle.session_trace.specs.Shows.{Explains}
use Rattle.session_trace.proofs.whole_log.explain_with.Given as goal

abbrev pub invariant-loop-place : goal.invariant-loop-place
invariant-loop-place g l = Explains (g.D.Dialect.wording l.dialect) l.fn.config (take l.place l.log) l.trace

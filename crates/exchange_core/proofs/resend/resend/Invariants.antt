use Rattle.exchange_core.proofs.Resending.{IsResent}
use Rattle.exchange_core.proofs.resend.resend.Given as goal

abbrev pub invariant-loop-entry : goal.invariant-loop-entry
invariant-loop-entry g l =
    IsResent (g.D.Dialect.wording l.dialect).encoding l.stamp l.config l.begin l.own l.entry-index l.run l.number l.initial.frames.items l.frames.items

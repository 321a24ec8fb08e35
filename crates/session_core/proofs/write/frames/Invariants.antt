use Rattle.std.proofs.Common.{map, take}
use Rattle.session_core.specs.Decision.{message_in}
use Rattle.dialect.specs.Framed.{AreFramed}
use Rattle.dialect.specs.Outgoing.{alone}
use Rattle.session_core.proofs.write.frames.Given as goal

abbrev pub invariant-loop-line : goal.invariant-loop-line
invariant-loop-line g l =
    AreFramed (g.D.Dialect.wording l.dialect).encoding l.stamp
    (map alone (map (message_in l.config) (take l.line-index l.lines))) (map (λ frame. frame.items) l.frames.items)

use Rattle.std.proofs.Common.{arith}
use Rattle.session_core.proofs.Framing.{spent-new, spent-old}
use Rattle.session_core.proofs.commit.spend.Goals as goal
use Rattle.session_core.proofs.commit.spend.Goals.{then-not-line, else-not-line}

pub loop-line-preserved : goal.loop-line-preserved
loop-line-preserved c =
    elim c.if-not-line.branch [
      | then-not-line w ↦
          rw w.log-is
          (spent-new c.args.log.now c.loop-line.log _ _ c.args.lines.now c.loop-line.line-index c.line-item.result (omega arith) c.line-item.is
          c.requires
          w.if-not-line.true c.loop-line.invariant w.push_admin.ensures)
      | else-not-line w ↦
          rw w.log-is
          (spent-old c.args.log.now c.loop-line.log c.args.lines.now c.loop-line.line-index c.line-item.result (omega arith) c.line-item.is
          w.if-not-line.false c.loop-line.invariant)
    ]

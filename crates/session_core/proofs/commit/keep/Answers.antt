use Rattle.std.proofs.Common.{sym, arith}
use Rattle.session_core.proofs.Framing.{kept-new, kept-old}
use Rattle.session_core.proofs.commit.keep.Goals as goal
use Rattle.session_core.proofs.commit.keep.Goals.{then-is_fence, else-is_fence}

pub loop-line-preserved : goal.loop-line-preserved
loop-line-preserved c =
    elim c.if-is_fence.branch [
      | then-is_fence w ↦
          rw w.fences-is (
            kept-new c.args.fences.now.items c.loop-line.fences.items _ c.args.lines.now c.loop-line.line-index
                c.line-item.result (omega arith) c.line-item.is
                (sym w.if-is_fence.ensures) c.loop-line.invariant.0 w.push_reserved.ensures.items,
            omega arith,
          )
      | else-is_fence w ↦
          rw w.fences-is (
            kept-old c.args.fences.now.items c.loop-line.fences.items c.args.lines.now c.loop-line.line-index
                c.line-item.result (omega arith) c.line-item.is
                (sym w.if-is_fence.ensures) c.loop-line.invariant.0,
            omega arith,
          )
    ]

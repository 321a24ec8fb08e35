use Rattle.std.proofs.Common.{arith}
use Rattle.session_core.specs.Decision.{message_in}
use Rattle.session_core.proofs.Framing.{writable-at, framed-more}
use Rattle.session_core.proofs.write.frames.Goals as goal

pub line_frame-requires : goal.line_frame-requires
line_frame-requires g c =
    writable-at (message_in c.args.config.now) c.args.lines.now c.loop-line.line-index
    c.line-item.result (omega arith) c.line-item.is c.requires

pub loop-line-preserved : goal.loop-line-preserved
loop-line-preserved g c =
    framed-more (g.D.Dialect.wording c.args.dialect.now).encoding
    c.args.stamp.now (message_in c.args.config.now) c.args.lines.now c.loop-line.line-index
    c.line-item.result c.loop-line.frames.items c.push.new.self.items c.in_ok-frame.frame (omega arith) c.line-item.is
    c.loop-line.invariant
    c.in_ok-frame.ensures.ok c.in_ok-push.ensures.items

use Rattle.session_trace.proofs.Whole.{nothing_shown, all_shown}
use Rattle.session_trace.proofs.whole_log.explain_with.Goals as goal

pub loop-place-init : goal.loop-place-init
loop-place-init g c =
    nothing_shown (g.D.Dialect.wording c.args.dialect.now) c.args.config c.new-trace.result c.new-trace.ensures

pub returns : goal.returns
returns g c =
    all_shown (g.D.Dialect.wording c.args.dialect.now) c.args.config c.args.log.now c.loop-place.trace c.loop-place.place
    c.loop-place.invariant c.loop-place-test.false

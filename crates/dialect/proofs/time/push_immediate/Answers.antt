use Rattle.std.proofs.Common.{length, ap, arith}
use Rattle.fix_tags.proofs.Written.{length-stamp_text}
use Rattle.fix_text.proofs.Sinks.{pushes_on}
use Rattle.dialect.proofs.time.push_immediate.Goals as goal

pub returns-clause-pushed : goal.returns-clause-pushed
returns-clause-pushed g c =
    let Takes = g.F.FieldSink.Takes in
    let more = g.met.F.FieldSink.takes_more in
    let last = c.push_short-2.result in
    pushes_on Takes more _ _ _ _ _ last c.in_ok-push_short.ensures.pushed
    (rw c.requires at c.push_short-2.ensures.pushed)

pub push_short-requires-2 : goal.push_short-requires-2
push_short-requires-2 g c = omega (arith, ap length c.requires, length-stamp_text c.args.stamp.now)

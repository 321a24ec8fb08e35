use Rattle.std.proofs.Common.{arith}
use Rattle.dressed_link.proofs.Passing.{taken_in_parts}
use Rattle.dressed_link.proofs.dresser.flush.Goals as goal

pub loop-link-preserved : goal.loop-link-preserved
loop-link-preserved g c =
    let so_far = c.loop-link.invariant in
    let step = taken_in_parts c.loop-link.pending.items c.as_slice.result.now so_far.0 c.args.pending.now.items _
    c.in_ok-count.count _ _ _ c.as_slice.ensures.value so_far.1 c.drop_front.ensures so_far.2 c.in_ok-count.ensures.wire in
    (step.0, step.1, step.2, omega (arith, so_far.3, c.in_ok-count.ensures.faults))

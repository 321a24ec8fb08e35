use Rattle.std.proofs.Common.{◌≡◌, length, arith}
use Rattle.live_load.specs.Day.{caller_of, left_of}
use Rattle.live_load.proofs.CallersLeft.{all_called}
use Rattle.live_load.proofs.callers.join_callers.Goals as goal

pub returns-in-Ok-clause-called : goal.returns-in-Ok-clause-called
returns-in-Ok-clause-called g c =
    let joined = c.in-Ok.ensures in
    let many : length c.in-Ok.ends.items ≡ length c.args.handles.items =
    omega (arith, joined.len, c.in-Ok.ends.ok.0, c.args.handles.ok.0) in
    all_called _ (λ p. caller_of p.1 p.0.value) (λ e. left_of e.seat e.unplaced) (λ p e kept. kept)
    c.args.handles.items c.in-Ok.ends.items many
    (λ i d below. (joined.each i d (omega (arith, below, c.args.handles.ok.0))).1)

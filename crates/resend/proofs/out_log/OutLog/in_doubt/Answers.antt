use Rattle.std.proofs.Common.{not, ap}
use Rattle.resend.specs.Kept.{kept_legs}
use Rattle.resend.proofs.Kept.{in_doubt-entries}
use Rattle.resend.proofs.out_log.OutLog.in_doubt.Goals as goal

pub returns : goal.returns
returns c =
    let log = c.self.inside in
    rw (← c.self.view_is, in_doubt-entries log.last (kept_legs log.ids.items log.window.items log.runs.items) c.self.invariant.0.rising, ← c.self.invariant.0.in_doubt, ← c.as_slice.ensures.value)
    (ap not c.is_empty.ensures)

use Rattle.std.proofs.Common.{◌∙◌}
use Rattle.resend.specs.Kept.{kept_legs}
use Rattle.resend.proofs.Kept.{window-entries}
use Rattle.resend.proofs.out_log.OutLog.window.Goals as goal

pub returns : goal.returns
returns c =
    let log = c.self.inside in
    rw (← c.self.view_is, window-entries log.last (kept_legs log.ids.items log.window.items log.runs.items) c.self.invariant.0.rising)
    (c.as_slice.ensures.value ∙ c.self.invariant.0.in_doubt)

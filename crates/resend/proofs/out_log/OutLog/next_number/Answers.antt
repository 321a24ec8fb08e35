use Rattle.std.proofs.Common.{arith}
use Rattle.resend.specs.Kept.{kept_legs}
use Rattle.resend.proofs.Kept.{length-entries}
use Rattle.resend.proofs.out_log.OutLog.next_number.Goals as goal

pub returns : goal.returns
returns c =
    let log = c.self.inside in
    rw (← c.self.view_is) (omega (arith, length-entries log.last (kept_legs log.ids.items log.window.items log.runs.items)))

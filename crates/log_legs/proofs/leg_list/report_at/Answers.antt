use Rattle.std.proofs.Common.{arith}
use Rattle.std.proofs.lemmas.Grind.{common_steps}
use Rattle.log_legs.specs.KeptLeg.{reported}
use Rattle.log_legs.proofs.ChangedAt.{set_is_changed}
use Rattle.log_legs.proofs.leg_list.report_at.Goals as goal

pub returns : goal.returns
returns c =
    let changed = set_is_changed (reported c.args.is_withdrawn c.args.change) c.args.place c.args.legs.now c.index-legs-place.result c.requires
    c.index-legs-place.is in
    let is = c.report.ensures in
    grind (arith, common_steps, changed, is)

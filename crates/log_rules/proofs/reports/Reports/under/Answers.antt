use Rattle.std.proofs.Common.{subst, ◌∙◌}
use Rattle.log_rules.specs.Kept.{KeepsNumbers}
use Rattle.log_rules.proofs.FirstReport.{found_under}
use Rattle.log_rules.proofs.reports.Reports.under.Goals as goal

pub returns : goal.returns
returns c =
    let inside = c.self.inside in
    c.at.ensures ∙ found_under inside.by_number c.args.self.now c.args.number c.get.result
    (subst (KeepsNumbers inside.by_number) c.self.view_is c.self.invariant.0) c.get.ensures

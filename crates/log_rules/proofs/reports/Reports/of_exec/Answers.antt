use Rattle.std.proofs.Common.{subst, ◌∙◌}
use Rattle.log_rules.specs.Kept.{KeepsExecs}
use Rattle.log_rules.proofs.FirstReport.{found_of_exec}
use Rattle.log_rules.proofs.reports.Reports.of_exec.Goals as goal

pub returns : goal.returns
returns c =
    let inside = c.self.inside in
    c.at.ensures ∙ found_of_exec inside.by_exec c.args.self.now c.args.exec.now c.get.result
    (subst (KeepsExecs inside.by_exec) c.self.view_is c.self.invariant.1) c.get.ensures

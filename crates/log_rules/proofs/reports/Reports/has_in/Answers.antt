use Rattle.std.proofs.Common.{ap, ◌∙◌}
use Rattle.log_rules.specs.Ledger.{has_report_in}
use Rattle.log_rules.proofs.FirstReport.{has_kept}
use Rattle.log_rules.proofs.reports.Reports.has_in.Goals as goal

pub returns : goal.returns
returns c =
    has_kept c.self.inside.by_number c.self.inside.items.items c.args.from c.args.to c.has_in.result c.self.invariant.0
    c.has_in.ensures ∙ ap (has_report_in c.args.from c.args.to) c.self.view_is

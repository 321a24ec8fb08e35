use Rattle.std.proofs.Common.{refl}
use Rattle.dialect.specs.ReportFields.{IsReportOf, report_fields}
use Rattle.dialect.proofs.Pushed.{pushes_such}
use Rattle.dialect.proofs.ReportIds.{has_short_ids}
use Rattle.dialect.proofs.spelled.AnyDialect.push_report.Goals as goal

pub returns-clause-pushed : goal.returns-clause-pushed
returns-clause-pushed g c =
    let spelling = g.S.Spelling.spelling c.args.self.now in
    let report = c.args.report.now in
    let view = c.args.view.now in
    pushes_such g.F.FieldSink.Takes (IsReportOf spelling report view) (report_fields spelling report view) c.args.fields.now
    c.push_report.new.fields c.push_report.result
    (record { in_range = c.in_range.ensures; view_in_range = c.leaves-leaves.ensures.in_range; own_leg = c.requires; written = refl })
    c.push_report.ensures.pushed

pub returns-clause-known : goal.returns-clause-known
returns-clause-known g c =
    has_short_ids c.args.report.now c.args.view.now c.in_range.ensures c.leaves-leaves.ensures.in_range

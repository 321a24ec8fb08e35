-- A report: what an exchange says of a leg (FIX 4.4 Volume 4, ExecutionReport).
use Rattle.leg.specs.LegId.{IsLegId}
use Rattle.dialect.specs.declared.report.Report.{Report}
use Rattle.dialect.specs.declared.report.ReportKind.{ReportKind}
use Rattle.dialect.specs.declared.report.ReportKind.TheVariants.{New, Trade, Canceled, Rejected, Expired, Bust}
use Rattle.dialect.specs.FreeText.{IsFreeText}
use Rattle.dialect.specs.Fill.{IsFill}

-- what a kind of report carries is in range
abbrev pub IsReportKind : ReportKind → Type 0
IsReportKind New = Unit {0}
IsReportKind (Trade fill) = IsFill fill
IsReportKind Canceled = Unit {0}
IsReportKind Rejected = Unit {0}
IsReportKind Expired = Unit {0}
IsReportKind (Bust cancelled_id) = IsFreeText 64 cancelled_id

-- each part of a report is in range
pub record IsReport (report : Report) : Type 0 where
  pub id : IsLegId report.id
  pub exec : IsFreeText 64 report.exec
  pub kind : IsReportKind report.kind

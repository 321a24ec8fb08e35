-- How long the ids are that an exchange gives with a report.
use Rattle.std.proofs.Common.{ℕ, ◌≤◌, List, length, arith}
use Rattle.std.proofs.lemmas.Bool.Decides.{nat_tests}
use Rattle.dialect.specs.declared.report.Report.{Report}
use Rattle.dialect.specs.declared.report.ReportKind.{ReportKind}
use Rattle.dialect.specs.declared.report.ReportKind.TheVariants.{New, Trade, Canceled, Rejected, Expired, Bust}
use Rattle.dialect.specs.FreeText.{IsFreeText}
use Rattle.dialect.specs.OrderView.{OrderViewParts, IsOrderView}
use Rattle.dialect.specs.Report.{IsReport, IsReportKind}
use Rattle.dialect.specs.ReportFields.{IsShortKind, HasShortIds}

short_id : (id : List ℕ) → IsFreeText 64 id → length id ≤ 64
short_id id is = grind (arith, nat_tests)

short_kind : (kind : ReportKind) → IsReportKind kind → IsShortKind 64 kind
short_kind New is = tt
short_kind (Trade fill) is = tt
short_kind Canceled is = tt
short_kind Rejected is = tt
short_kind Expired is = tt
short_kind (Bust cancelled_id) is = short_id cancelled_id is

pub has_short_ids : (report : Report) (view : OrderViewParts) → IsReport report → IsOrderView view
    → HasShortIds 64 report view
has_short_ids report view is at = record {
  order_id = short_id view.order_id at.order_id;
  exec = short_id report.exec is.exec;
  kind = short_kind report.kind is.kind;
}

shorter_kind : (kind : ReportKind) → IsShortKind 64 kind → IsShortKind 1152 kind
shorter_kind New is = tt
shorter_kind (Trade fill) is = tt
shorter_kind Canceled is = tt
shorter_kind Rejected is = tt
shorter_kind Expired is = tt
shorter_kind (Bust cancelled_id) is = omega arith

-- so they fit where more would
pub shorter_ids : (report : Report) (view : OrderViewParts) → HasShortIds 64 report view → HasShortIds 1152 report view
shorter_ids report view are = record {
  order_id = omega (arith, are.order_id);
  exec = omega (arith, are.exec);
  kind = shorter_kind report.kind are.kind;
}

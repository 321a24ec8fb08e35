-- What is written of a report, in written order (FIX 4.4 Volume 4, ExecutionReport).
use Rattle.std.specs.Prelude.{◌≡◌, ◌==◌, ◌≤◌, ℕ, length, List, [], ◌∷◌, ◌++◌, codes, decimal, if◌then◌else◌}
use Rattle.fix_text.specs.Tagged.{Tagged}
use Rattle.dialect.specs.declared.report.Report.{Report}
use Rattle.dialect.specs.declared.report.ReportKind.{ReportKind}
use Rattle.dialect.specs.declared.report.ReportKind.TheVariants.{New, Trade, Canceled, Rejected, Expired, Bust}
use Rattle.dialect.specs.Fields.{field}
use Rattle.dialect.specs.Limit.{side_text}
use Rattle.dialect.specs.OrderView.{OrderViewParts, IsOrderView}
use Rattle.dialect.specs.Report.{IsReport}
use Rattle.dialect.specs.Spelling.{SpellingParts}

-- ExecType (150): what happened
abbrev pub exec_type_text : ReportKind → List ℕ
exec_type_text New = codes "0"
exec_type_text (Trade fill) = codes "F"
exec_type_text Canceled = codes "4"
exec_type_text Rejected = codes "8"
exec_type_text Expired = codes "C"
exec_type_text (Bust cancelled_id) = codes "H"

-- OrdStatus (39): how the order stands then, with this many shares open
abbrev pub ord_status_text : ReportKind → ℕ → List ℕ
ord_status_text New leaves = codes "0"
ord_status_text (Trade fill) leaves = if leaves == 0 then codes "2" else codes "1"
ord_status_text Canceled leaves = codes "4"
ord_status_text Rejected leaves = codes "8"
ord_status_text Expired leaves = codes "C"
ord_status_text (Bust cancelled_id) leaves = codes "4"

-- ExecRefID (19) of a bust: the report that is undone
abbrev pub cancelled_fields : ReportKind → List Tagged
cancelled_fields New = []
cancelled_fields (Trade fill) = []
cancelled_fields Canceled = []
cancelled_fields Rejected = []
cancelled_fields Expired = []
cancelled_fields (Bust cancelled_id) = field 19 cancelled_id ∷ []

-- LastQty (32) and LastPx (31) of a trade
abbrev pub fill_fields : ReportKind → List Tagged
fill_fields New = []
fill_fields (Trade fill) = field 32 (decimal fill.shares) ∷ field 31 fill.px ∷ []
fill_fields Canceled = []
fill_fields Rejected = []
fill_fields Expired = []
fill_fields (Bust cancelled_id) = []

-- which order, which report, what happened and to which leg
abbrev pub event_fields : SpellingParts → Report → OrderViewParts → List Tagged
event_fields s report view =
    field 37 view.order_id ∷ field 17 report.exec ∷ []
    ++ cancelled_fields report.kind
    ++ field 150 (exec_type_text report.kind) ∷ field 39 (ord_status_text report.kind view.leaves)
    ∷ field 11 (s.id_text report.id) ∷ []

-- the side, what was traded, and how many shares are open and filled; no average price is kept (6=0)
abbrev pub amount_fields : Report → OrderViewParts → List Tagged
amount_fields report view =
    field 54 (side_text view.leg.terms.side) ∷ []
    ++ fill_fields report.kind
    ++ field 151 (decimal view.leaves) ∷ field 14 (decimal view.cum) ∷ field 6 (codes "0") ∷ []

-- what is written of a report, beside what its exchange knows of the order
abbrev pub report_fields : SpellingParts → Report → OrderViewParts → List Tagged
report_fields s report view =
    event_fields s report view ++ s.symbol_fields view.leg.terms.symbol ++ amount_fields report view

-- the id of the trade that a bust undoes is at most so long
abbrev pub IsShortKind : ℕ → ReportKind → Type 0
IsShortKind longest (Bust cancelled_id) = length cancelled_id ≤ longest
IsShortKind longest kind = Unit {0}

-- no id that the exchange gave is longer
pub record HasShortIds (longest : ℕ) (report : Report) (view : OrderViewParts) : Type 0 where
  pub order_id : length view.order_id ≤ longest
  pub exec : length report.exec ≤ longest
  pub kind : IsShortKind longest report.kind

-- these fields are a report beside this view, of an order for its own leg
pub record IsReportOf (s : SpellingParts) (report : Report) (view : OrderViewParts)
    (fields : List Tagged) : Type 0 where
  pub in_range : IsReport report
  pub view_in_range : IsOrderView view
  pub own_leg : view.leg.id ≡ report.id
  pub written : fields ≡ report_fields s report view

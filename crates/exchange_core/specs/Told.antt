-- What our exchange reports of one order, from the first report to the last (FIX 4.4 Volume 4, ExecutionReport:
-- ExecType, CumQty, LeavesQty).
use Rattle.std.specs.Prelude.{◌≡◌, ℕ, ◌+◌, ◌-◌, ◌≤◌, ◌<◌, true, List, [], ◌∷◌, length, Some, if◌then◌else◌}
use Rattle.std.specs.Str.{bytes_eq}
use Rattle.leg.specs.Numbered.{numbered}
use Rattle.leg.specs.declared.leg.Leg.{Leg}
use Rattle.dialect.specs.OrderView.{OrderViewParts}
use Rattle.dialect.specs.declared.report.ReportKind.{ReportKind}
use Rattle.dialect.specs.declared.report.ReportKind.TheVariants.{New, Trade, Canceled, Rejected, Bust}
use Rattle.exchange_core.specs.Order.{OrderParts, new_order, order_id, is_cancelled, view_of}
use Rattle.exchange_core.specs.declared.sent_record.SentRecord.{SentRecord}
use Rattle.exchange_core.specs.declared.sent_record.SentRecord.TheVariants.{Reported}
use Rattle.exchange_core.specs.Exchange.{ExchangeParts}

-- a report on an order: what it says, and the order as it was then
pub record Told : Type 0 where
  pub kind : ReportKind
  pub view : OrderViewParts

-- the reports on the order of a place, which is known by its OrderID (37)
abbrev pub told_of : ℕ → List SentRecord → List Told
told_of place [] = []
told_of place (Reported report view ∷ own) =
    let told : Told = record { kind = report.kind; view = view } in
    if bytes_eq view.order_id (order_id place) then told ∷ told_of place own else told_of place own
told_of place (entry ∷ own) = told_of place own

-- an order after a trade of some of its open shares, with nothing open any more, and with others filled
abbrev pub filled_by : ℕ → OrderViewParts → OrderViewParts
filled_by shares view = record view { cum = view.cum + shares; leaves = view.leaves - shares }

abbrev pub closed : OrderViewParts → OrderViewParts
closed view = record view { leaves = 0 }

abbrev pub with_cum : ℕ → OrderViewParts → OrderViewParts
with_cum cum view = record view { cum = cum }

-- the rest of an order was cancelled, by its last report or by one that busts alone followed
abbrev pub IsCancelled : ReportKind → Type 0
IsCancelled Canceled = Unit {0}
IsCancelled (Bust cancelled_id) = Unit {0}
IsCancelled kind = ⊥

-- what may be reported of an order next, after the report that said this of it: trades of open shares; the end, while
-- something is open; and once its rest was cancelled busts alone, by which less is filled and nothing open
abbrev pub MayFollow : ReportKind → OrderViewParts → ReportKind → OrderViewParts → Type 0
MayFollow said before (Trade fill) after =
    (1 ≤ fill.shares) × (fill.shares ≤ before.leaves) × (after ≡ filled_by fill.shares before)
MayFollow said before Canceled after = (1 ≤ before.leaves) × (after ≡ closed before)
MayFollow said before Rejected after = (1 ≤ before.leaves) × (after ≡ closed before)
MayFollow said before (Bust cancelled_id) after =
    IsCancelled said × (before.leaves ≡ 0) × (after.cum ≤ before.cum) × (after ≡ with_cum after.cum before)
MayFollow said before kind after = ⊥

-- each report may follow the one before it, of which the first follows this one
abbrev pub AreFollowing : Told → List Told → Type 0
AreFollowing before [] = Unit {0}
AreFollowing before (told ∷ rest) = MayFollow before.kind before.view told.kind told.view × AreFollowing told rest

-- the last of them, or this one
abbrev pub last_told : Told → List Told → Told
last_told before [] = before
last_told before (told ∷ rest) = last_told told rest

-- the first report on an order: it is new, and all of its leg is open
abbrev pub new_told : ℕ → Leg → Told
new_told place leg = record { kind = New; view = view_of place (new_order leg) }

-- the last report is on the order as it is
pub record IsStanding (place : ℕ) (order : OrderParts) (last : Told) : Type 0 where
  pub view : last.view ≡ view_of place order
  pub cancelled : is_cancelled order.ended ≡ true → IsCancelled last.kind × (order.split.still_open ≡ 0)

-- these are the reports on the order at a place
pub record AreReportsOn (place : ℕ) (order : OrderParts) (reports : List Told) : Type 0 where
  pub rest : List Told
  pub first : reports ≡ new_told place order.leg ∷ rest
  pub following : AreFollowing (new_told place order.leg) rest
  pub standing : IsStanding place order (last_told (new_told place order.leg) rest)

-- each order was reported so, and nothing else was reported
pub record AreToldBy (own : List SentRecord) (orders : List OrderParts) : Type 0 where
  pub each : (place : ℕ) (order : OrderParts) → numbered place orders ≡ Some order
      → AreReportsOn place order (told_of place own)
  pub others : (place : ℕ) → length orders < place → place ≤ 999_999_999 → told_of place own ≡ []

abbrev pub OrdersAreTold : ExchangeParts → Type 0
OrdersAreTold x = AreToldBy x.own x.orders

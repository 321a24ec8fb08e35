-- The orders that were sent, and the reports that came.
use Rattle.std.specs.Prelude.{ℕ, zero, suc, Bool, false, ◌&&◌, ◌||◌, List, [], ◌∷◌, ◌++◌, filter, length, map, Option, Some, None, option_and_then, is_some, not, slice_get, nat_le, nat_lt, ◌==◌, if◌then◌else◌}
use Rattle.std.specs.Str.{bytes_eq}
use Rattle.message_log.specs.declared.direction.Direction.{Direction}
use Rattle.message_log.specs.declared.direction.Direction.TheVariants.{Sent, Received}
use Rattle.log_rules.specs.declared.entry.Entry.{Entry}
use Rattle.log_rules.specs.declared.order_said.OrderSaid.{OrderSaid}
use Rattle.log_rules.specs.declared.report_said.ReportSaid.{ReportSaid}
use Rattle.log_rules.specs.declared.says.Says.{Says}
use Rattle.log_rules.specs.declared.says.Says.TheVariants.{Logon, ResendRequest, Refused, Order, Report}
use Rattle.log_rules.specs.declared.standing.Standing.{Standing}
use Rattle.log_rules.specs.KeptReport.{ReportParts, is_on, kept_report}
use Rattle.log_rules.specs.Order.{OrderParts, new_order, refused, reported, withdrawn_by}
use Rattle.log_rules.specs.Standing.{is_due, was_reached}

-- in their order
pub record LedgerParts : Type 0 where
  pub orders : List OrderParts
  pub reports : List ReportParts

-- the place of the newest of some orders, which is the first one's where no later one is
abbrev pub newest_of : Option ℕ → Bool → Option ℕ
newest_of (Some place) is_first = Some (suc place)
newest_of None is_first = if is_first then Some 0 else None

-- the place of the newest order that passes a test
abbrev pub newest_place : (OrderParts → Bool) → List OrderParts → Option ℕ
newest_place test [] = None
newest_place test (o ∷ os) = newest_of (newest_place test os) (test o)

-- the place of the newest order of an id
abbrev pub newest_order : List OrderParts → List ℕ → Option ℕ
newest_order orders id = newest_place (λ o. bytes_eq o.id id) orders

-- the place of the newest order that was sent under a number
abbrev pub newest_under : List OrderParts → ℕ → Option ℕ
newest_under orders number = newest_place (λ o. o.number == number) orders

-- the order of an id
abbrev pub order_of : List OrderParts → List ℕ → Option OrderParts
order_of orders id = option_and_then (slice_get orders) (newest_order orders id)

-- the report that came under a number
abbrev pub report_under : ℕ → List ReportParts → Option ReportParts
report_under number [] = None
report_under number (r ∷ rs) = if r.number == number then Some r else report_under number rs

-- the first report of an ExecID
abbrev pub report_of_exec : List ℕ → List ReportParts → Option ReportParts
report_of_exec exec [] = None
report_of_exec exec (r ∷ rs) = if bytes_eq r.exec exec then Some r else report_of_exec exec rs

abbrev pub came_under_other : Option ReportParts → ℕ → Bool
came_under_other None number = false
came_under_other (Some r) number = not (r.number == number)

-- an ExecID was first that of a report under another number
abbrev pub comes_again : List ℕ → ℕ → List ReportParts → Bool
comes_again exec number reports = came_under_other (report_of_exec exec reports) number

abbrev pub shares_if_on : Option ℕ → Option ReportParts → Option ℕ
shares_if_on order None = None
shares_if_on order (Some r) = if is_on order r.order then Some r.shares else None

-- how many shares the first report of an ExecID says were traded, if it is on the order at this place
abbrev pub shares_of_exec : List ℕ → Option ℕ → List ReportParts → Option ℕ
shares_of_exec exec order reports = shares_if_on order (report_of_exec exec reports)

-- whether a report came under a number of a range
abbrev pub has_report_in : ℕ → ℕ → List ReportParts → Bool
has_report_in from to [] = false
has_report_in from to (r ∷ rs) = (nat_le from r.number && nat_lt r.number to) || has_report_in from to rs

-- how many reports came under numbers above the last that is counted
abbrev pub uncounted_of : Option ℕ → List ReportParts → ℕ
uncounted_of counted reports = length (filter (λ r. not (was_reached counted r.number)) reports)

-- with an order behind the others, unless its id was sent before
abbrev pub with_order : ℕ → OrderSaid → LedgerParts → LedgerParts
with_order number said l =
    if is_some (order_of l.orders said.id) then l else record l { orders = l.orders ++ new_order number said ∷ [] }

-- with a report behind the others, unless one came under its number
abbrev pub with_report : ℕ → ℕ → ReportSaid → LedgerParts → LedgerParts
with_report seen number said l =
    if nat_le number seen && is_some (report_under number l.reports) then l
    else record l { reports = l.reports ++ kept_report number (newest_order l.orders said.id) said ∷ [] }

-- an order at a place is changed
abbrev pub order_changed : (OrderParts → OrderParts) → ℕ → List OrderParts → List OrderParts
order_changed change place [] = []
order_changed change zero (o ∷ os) = change o ∷ os
order_changed change (suc place) (o ∷ os) = o ∷ order_changed change place os

-- the orders, of which the one at a place is changed
abbrev pub changed_at : (OrderParts → OrderParts) → Option ℕ → List OrderParts → List OrderParts
changed_at change None orders = orders
changed_at change (Some place) orders = order_changed change place orders

-- with a report's sums at the order that it is on
abbrev pub with_sums : ReportSaid → LedgerParts → LedgerParts
with_sums said l = record l { orders = changed_at (reported said) (newest_order l.orders said.id) l.orders }

-- with nothing open of the order that was sent under a number
abbrev pub with_refusal : ℕ → LedgerParts → LedgerParts
with_refusal number l = record l { orders = changed_at refused (newest_under l.orders number) l.orders }

-- with the orders withdrawn that are in doubt from an expected number on
abbrev pub withdrawn_from : ℕ → ℕ → LedgerParts → LedgerParts
withdrawn_from settled expected l = record l { orders = map (withdrawn_by settled expected) l.orders }

-- with a report that came: its sums count once
abbrev pub with_report_heard : Standing → ℕ → ReportSaid → LedgerParts → LedgerParts
with_report_heard s number said l =
    let kept = with_report s.seen number said l in if is_due s.counted number then with_sums said kept else kept

-- with a refusal that came: it counts once
abbrev pub with_refusal_heard : Standing → ℕ → ℕ → LedgerParts → LedgerParts
with_refusal_heard s number order l = if is_due s.counted number then with_refusal order l else l

-- with the orders withdrawn that a Logon says it lacks (789)
abbrev pub withdrawn_by_logon : Standing → Option ℕ → LedgerParts → LedgerParts
withdrawn_by_logon s None l = l
withdrawn_by_logon s (Some next) l = if s.says_next then withdrawn_from s.settled next l else l

abbrev pub changed_with : Standing → Direction → Says → ℕ → LedgerParts → LedgerParts
changed_with s Sent (Order said) number l = with_order number said l
changed_with s Received (Report said) number l = with_report_heard s number said l
changed_with s Received (Refused order) number l = with_refusal_heard s number order l
changed_with s Received (ResendRequest begin last) number l =
    if s.is_up then l else withdrawn_from s.settled begin l
changed_with s Received (Logon heart reset next) number l = withdrawn_by_logon s next l
changed_with s direction says number l = l

-- behind a message
abbrev pub changed_by : Standing → Entry → LedgerParts → LedgerParts
changed_by s e l = changed_with s e.direction e.says e.number l

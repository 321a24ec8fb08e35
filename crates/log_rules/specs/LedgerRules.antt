-- The rules of orders and of the reports on them (FIX 4.4 Volume 4).
use Rattle.std.specs.Prelude.{ℕ, ◌+◌, Bool, true, false, ◌&&◌, not, List, Option, Some, None, is_some, is_none, nat_lt, ◌==◌, if◌then◌else◌}
use Rattle.message_log.specs.declared.direction.Direction.{Direction}
use Rattle.message_log.specs.declared.direction.Direction.TheVariants.{Sent, Received}
use Rattle.log_rules.specs.declared.entry.Entry.{Entry}
use Rattle.log_rules.specs.declared.report_said.Happening.{Happening}
use Rattle.log_rules.specs.declared.report_said.Happening.TheVariants as happening
use Rattle.log_rules.specs.declared.report_said.ReportSaid.{ReportSaid}
use Rattle.log_rules.specs.declared.says.Says.{Says}
use Rattle.log_rules.specs.declared.says.Says.TheVariants.{Logon, GapFill, Reset, Order, Report}
use Rattle.log_rules.specs.declared.standing.Standing.{Standing}
use Rattle.log_rules.specs.declared.verdict.Verdict.{Verdict}
use Rattle.log_rules.specs.declared.verdict.Verdict.TheVariants.{Unasked, Broken}
use Rattle.log_rules.specs.KeptReport.{ReportParts, is_again}
use Rattle.log_rules.specs.Ledger.{LedgerParts, has_report_in, newest_order, order_of, report_under, shares_of_exec}
use Rattle.log_rules.specs.Order.{OrderParts}
use Rattle.log_rules.specs.Standing.{begins_anew, is_due, was_reached}
use Rattle.log_rules.specs.Verdict.{held_if}

-- New Order - Single: an order's id was never sent before
abbrev pub sent_once : LedgerParts → Direction → Says → Verdict
sent_once l Sent (Order said) = held_if (is_none (order_of l.orders said.id))
sent_once l direction says = Unasked

-- Execution Report: it is on an order that was sent
abbrev pub known_order : LedgerParts → Direction → Says → Verdict
known_order l Received (Report said) = held_if (is_some (order_of l.orders said.id))
known_order l direction says = Unasked

abbrev pub unless_withdrawn : Option OrderParts → Verdict
unless_withdrawn None = Unasked
unless_withdrawn (Some o) = held_if (not o.is_withdrawn)

-- Execution Report: it is on no order that was withdrawn
abbrev pub not_withdrawn : LedgerParts → Direction → Says → Verdict
not_withdrawn l Received (Report said) = unless_withdrawn (order_of l.orders said.id)
not_withdrawn l direction says = Unasked

-- a report under a number that came before is the one that came under it
abbrev pub is_repeat : Option ReportParts → Bool → ReportSaid → Verdict
is_repeat (Some kept) was_counted said = held_if (is_again kept said)
is_repeat None was_counted said = if was_counted then Broken else Unasked

abbrev pub repeats : Option ℕ → List ReportParts → ℕ → ReportSaid → Verdict
repeats counted reports number said = is_repeat (report_under number reports) (was_reached counted number) said

abbrev pub used_again : Option ℕ → List ReportParts → Says → ℕ → Verdict
used_again counted reports (Logon heart reset next) number =
    if begins_anew reset number then Unasked else held_if (is_none (report_under number reports))
used_again counted reports (Reset new_number) number = Unasked
used_again counted reports (Report said) number = repeats counted reports number said
used_again counted reports (GapFill new_number) number = held_if (not (has_report_in number new_number reports))
used_again counted reports says number = held_if (is_none (report_under number reports))

abbrev pub used_once : Standing → LedgerParts → Direction → Says → ℕ → Verdict
used_once s l Sent says number = Unasked
used_once s l Received says number =
    if nat_lt s.seen number then Unasked else used_again s.counted l.reports says number

-- Possible Duplicates: a number that came before carries the same report again, or none as it did
abbrev pub one_use : Standing → LedgerParts → Entry → Verdict
one_use s l e = used_once s l e.direction e.says e.number

-- a sum is that of two numbers
abbrev pub is_sum : ℕ → ℕ → ℕ → Bool
is_sum sum a b = sum == a + b

-- a trade of one share or more: its shares were open, and are filled
abbrev pub trade_adds_up : OrderParts → ℕ → ℕ → ℕ → Bool
trade_adds_up o shares cum leaves = nat_lt 0 shares && is_sum cum o.cum shares && is_sum o.leaves leaves shares

-- a bust: the shares of its trade are filled no more
abbrev pub bust_adds_up : OrderParts → Option ℕ → ℕ → ℕ → Bool
bust_adds_up o None cum leaves = false
bust_adds_up o (Some shares) cum leaves = nat_lt 0 shares && is_sum o.cum cum shares && (leaves == o.leaves)

-- how many shares of this order the trade of an ExecID has
abbrev pub shares_undone : LedgerParts → OrderParts → List ℕ → Option ℕ
shares_undone l o undone = shares_of_exec undone (newest_order l.orders o.id) l.reports

-- the sums after a report are what is made of an order's by what happened
abbrev pub adds_up : LedgerParts → OrderParts → Happening → ℕ → ℕ → Bool
adds_up l o happening.New cum leaves = (cum == o.cum) && (leaves == o.leaves)
adds_up l o (happening.Trade shares) cum leaves = trade_adds_up o shares cum leaves
adds_up l o happening.Ended cum leaves = (cum == o.cum) && (leaves == 0)
adds_up l o (happening.Bust undone) cum leaves = bust_adds_up o (shares_undone l o undone) cum leaves
adds_up l o happening.Other cum leaves = true
adds_up l o happening.Unknown cum leaves = true

abbrev pub sums_said : LedgerParts → OrderParts → Happening → Option ℕ → Option ℕ → Bool
sums_said l o happened (Some cum) (Some leaves) = adds_up l o happened cum leaves
sums_said l o happened cum leaves = false

-- a report on an order says both sums, and they add up
abbrev pub sums_of : LedgerParts → OrderParts → ReportSaid → Bool
sums_of l o said = sums_said l o said.happened said.cum said.leaves

abbrev pub sums_if : LedgerParts → Option OrderParts → ReportSaid → Verdict
sums_if l None said = Unasked
sums_if l (Some o) said = held_if (sums_of l o said)

abbrev pub sums_by : Standing → LedgerParts → Direction → Says → ℕ → Verdict
sums_by s l Received (Report said) number =
    if is_due s.counted number then sums_if l (order_of l.orders said.id) said else Unasked
sums_by s l direction says number = Unasked

-- Execution Report: CumQty (14) and LeavesQty (151) of each report that is counted add up
abbrev pub sums_add_up : Standing → LedgerParts → Entry → Verdict
sums_add_up s l e = sums_by s l e.direction e.says e.number

-- The rules of what a report says (FIX 4.4 Volume 4).
use Rattle.std.specs.Prelude.{ℕ, Bool, true, false, ◌&&◌, not, List, [], ◌∷◌, Option, Some, None, is_some, nat_le, nat_lt, ◌==◌, if◌then◌else◌}
use Rattle.std.specs.Str.{bytes_eq}
use Rattle.leg.specs.declared.side.Side.{Side}
use Rattle.leg.specs.declared.side.Side.TheVariants.{Buy, Sell}
use Rattle.message_log.specs.declared.direction.Direction.{Direction}
use Rattle.message_log.specs.declared.direction.Direction.TheVariants.{Received}
use Rattle.log_rules.specs.declared.entry.Entry.{Entry}
use Rattle.log_rules.specs.declared.report_said.Happening.{Happening}
use Rattle.log_rules.specs.declared.report_said.Happening.TheVariants as happening
use Rattle.log_rules.specs.declared.report_said.ReportSaid.{ReportSaid}
use Rattle.log_rules.specs.declared.says.Says.{Says}
use Rattle.log_rules.specs.declared.says.Says.TheVariants.{Report}
use Rattle.log_rules.specs.declared.standing.Standing.{Standing}
use Rattle.log_rules.specs.declared.verdict.Verdict.{Verdict}
use Rattle.log_rules.specs.declared.verdict.Verdict.TheVariants.{Unasked, Held, Broken}
use Rattle.log_rules.specs.KeptReport.{ReportParts, has_shares_of}
use Rattle.log_rules.specs.Ledger.{LedgerParts, order_of, report_of_exec, report_under}
use Rattle.log_rules.specs.Order.{OrderParts}
use Rattle.log_rules.specs.Said.{is_end}
use Rattle.log_rules.specs.Standing.{is_due}
use Rattle.log_rules.specs.Verdict.{held_if}

-- a report comes for the first time: none came under its number
abbrev pub is_first : Standing → LedgerParts → ℕ → Bool
is_first s l number = not (nat_le number s.seen && is_some (report_under number l.reports))

-- what is said of the ExecID of a report that comes for the first time, of which another may be the first
abbrev pub exec_used : Bool → Option ReportParts → ReportSaid → Verdict
exec_used true None said = Unasked
exec_used true (Some kept) said = held_if (has_shares_of kept said)
exec_used false None said = Held
exec_used false (Some kept) said = Broken

abbrev pub exec_new : Standing → LedgerParts → Bool → Direction → Says → ℕ → Verdict
exec_new s l poss_resend Received (Report said) number =
    if is_first s l number then exec_used poss_resend (report_of_exec said.exec l.reports) said else Unasked
exec_new s l poss_resend direction says number = Unasked

-- ExecID (17): a report that comes for the first time has one of its own; one that may have come under another number
-- (97=Y) says as many shares as the first report of its ExecID
abbrev pub exec_once : Standing → LedgerParts → Entry → Verdict
exec_once s l e = exec_new s l e.poss_resend e.direction e.says e.number

abbrev pub is_known : Happening → Bool
is_known happening.Unknown = false
is_known happened = true

-- ExecType (150): it is one of the standard's, a trade says how many shares (32) and at which price (31), and a bust
-- says which trade (19)
abbrev pub known_kind : Direction → Says → Verdict
known_kind Received (Report said) = held_if (is_known said.happened)
known_kind direction says = Unasked

-- the order that a report is on which is counted
abbrev pub counted_on : Standing → LedgerParts → Direction → Says → ℕ → Option OrderParts
counted_on s l Received (Report said) number =
    if is_due s.counted number then order_of l.orders said.id else None
counted_on s l direction says number = None

-- New, a trade and an end are of an order that has open shares
abbrev pub is_of_open : OrderParts → Happening → Verdict
is_of_open o happening.New = held_if (nat_lt 0 o.leaves)
is_of_open o (happening.Trade shares) = held_if (nat_lt 0 o.leaves)
is_of_open o happening.Ended = held_if (nat_lt 0 o.leaves)
is_of_open o happened = Unasked

abbrev pub open_if : Option OrderParts → Says → Verdict
open_if (Some o) (Report said) = is_of_open o said.happened
open_if order says = Unasked

-- LeavesQty (151): behind the end of an order nothing happens to it but busts
abbrev pub open_order : Standing → LedgerParts → Entry → Verdict
open_order s l e = open_if (counted_on s l e.direction e.says e.number) e.says

-- a price is no worse than a limit
abbrev pub is_within : Side → ℕ → ℕ → Bool
is_within Buy limit price = nat_le price limit
is_within Sell limit price = nat_le limit price

abbrev pub within_limit : Option Side → Option ℕ → Option ℕ → Verdict
within_limit (Some side) (Some limit) (Some price) = held_if (is_within side limit price)
within_limit side limit price = Unasked

abbrev pub trade_within : OrderParts → ReportSaid → Happening → Verdict
trade_within o said (happening.Trade shares) = within_limit o.side o.price said.price
trade_within o said happened = Unasked

abbrev pub limit_if : Option OrderParts → Says → Verdict
limit_if (Some o) (Report said) = trade_within o said said.happened
limit_if order says = Unasked

-- LastPx (31): a trade's price is no worse than the order's (44), where both can be read
abbrev pub limit_kept : Standing → LedgerParts → Entry → Verdict
limit_kept s l e = limit_if (counted_on s l e.direction e.says e.number) e.says

-- two texts are one, where both are there
abbrev pub texts_agree : Option (List ℕ) → Option (List ℕ) → Bool
texts_agree (Some text) (Some other) = bytes_eq text other
texts_agree text other = true

abbrev pub sides_agree : Option Side → Option Side → Bool
sides_agree (Some Buy) (Some Sell) = false
sides_agree (Some Sell) (Some Buy) = false
sides_agree side other = true

abbrev pub terms_if : Option OrderParts → Says → Verdict
terms_if (Some o) (Report said) =
    held_if (texts_agree o.symbol said.symbol && sides_agree o.side said.side)
terms_if order says = Unasked

-- Symbol (55) and Side (54): a report has those of its order, where both have them
abbrev pub same_terms : Standing → LedgerParts → Entry → Verdict
same_terms s l e = terms_if (counted_on s l e.direction e.says e.number) e.says

-- what the byte of a status (39) says of the sums
abbrev pub status_says : ℕ → ℕ → ℕ → Bool
status_says c cum leaves =
    if c == 48 then cum == 0
    else (if c == 49 then nat_lt 0 cum && nat_lt 0 leaves
    else (if c == 50 then nat_lt 0 cum && (leaves == 0)
    else (if is_end c then leaves == 0 else true)))

abbrev pub status_with : Option (List ℕ) → Option ℕ → Option ℕ → Verdict
status_with (Some (c ∷ [])) (Some cum) (Some leaves) = held_if (status_says c cum leaves)
status_with status cum leaves = Unasked

abbrev pub status_of : ReportSaid → Happening → Verdict
status_of said happening.New = status_with said.status said.cum said.leaves
status_of said (happening.Trade shares) = status_with said.status said.cum said.leaves
status_of said happening.Ended = status_with said.status said.cum said.leaves
status_of said happened = Unasked

-- OrdStatus (39): in a report of New, a trade or an end it is what CumQty (14) and LeavesQty (151) say
abbrev pub status_fits : Direction → Says → Verdict
status_fits Received (Report said) = status_of said said.happened
status_fits direction says = Unasked

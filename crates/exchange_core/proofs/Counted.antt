-- Each report has the ExecID of its place among the reports.
use Rattle.std.proofs.Common.{◌≡◌, ◌==◌, ℕ, suc, ◌+◌, Bool, true, false, List, [], ◌∷◌, ◌++◌, length, Option, Some, None, Ok, Err, ap, ◌∙◌, arith}
use Rattle.dialect.specs.declared.report.Report.{Report}
use Rattle.dialect.specs.declared.report.ReportKind.{ReportKind}
use Rattle.dialect.specs.declared.report.ReportKind.TheVariants.{New}
use Rattle.dialect.specs.OrderView.{OrderViewParts}
use Rattle.dialect.specs.declared.content.Content.{Content}
use Rattle.dialect.specs.declared.content.Content.TheVariants.{Session, Order}
use Rattle.fix_tags.specs.declared.session_body.SessionBody.TheVariants.{TestRequest, GapFill, Logout}
use Rattle.dialect.specs.declared.message.Message.{Message}
use Rattle.exchange_core.specs.Order.{OrderParts, new_order, view_of}
use Rattle.exchange_core.specs.declared.sent_record.SentRecord.{SentRecord}
use Rattle.exchange_core.specs.declared.sent_record.SentRecord.TheVariants.{Admin, Reported, Refused}
use Rattle.exchange_core.specs.SentRecord.{report_count, exec_id}
use Rattle.exchange_core.specs.Exchange.{ExchangeParts, next_report, logon_answer, with_connection, due_taken, take}
use Rattle.exchange_core.specs.Acts.{reported, trade, cancel_rest, reject, bust, test}
use Rattle.exchange_core.specs.Keeping.{AreCounted}
use Rattle.exchange_core.proofs.Cases.{after_take_is}
use Rattle.exchange_core.proofs.ActsReport.{IsReported, AnyPx, trade_is, cancel_rest_is, reject_is, bust_is, test_is}

-- a number that carries no report
more_admin : (count : ℕ) (own : List SentRecord) → AreCounted count own → AreCounted count (own ++ Admin ∷ [])
more_admin count [] counted = tt
more_admin count (Admin ∷ own) counted = more_admin count own counted
more_admin count (Reported report view ∷ own) counted = (counted.0, more_admin (suc count) own counted.1)
more_admin count (Refused number ∷ own) counted = more_admin count own counted

two_admin : (count : ℕ) (own : List SentRecord) → AreCounted count own → AreCounted count (own ++ Admin ∷ Admin ∷ [])
two_admin count [] counted = tt
two_admin count (Admin ∷ own) counted = two_admin count own counted
two_admin count (Reported report view ∷ own) counted = (counted.0, two_admin (suc count) own counted.1)
two_admin count (Refused number ∷ own) counted = two_admin count own counted

more_refused : (count number : ℕ) (own : List SentRecord) → AreCounted count own → AreCounted count (own ++ Refused number ∷ [])
more_refused count number [] counted = tt
more_refused count number (Admin ∷ own) counted = more_refused count number own counted
more_refused count number (Reported report view ∷ own) counted = (counted.0, more_refused (suc count) number own counted.1)
more_refused count number (Refused refused ∷ own) counted = more_refused count number own counted

-- one more report
one_later : (count reports : ℕ) (exec : List ℕ) → exec ≡ exec_id (suc (count + suc reports)) → exec ≡ exec_id (suc (suc count + reports))
one_later count reports exec is = let same : suc (count + suc reports) ≡ suc (suc count + reports) = omega arith in is ∙ ap exec_id same

more_reported : (count : ℕ) (own : List SentRecord) (report : Report) (view : OrderViewParts) → AreCounted count own → report.exec ≡ exec_id (suc (count + report_count own)) → AreCounted count (own ++ Reported report view ∷ [])
more_reported count [] report view counted is = (let same : suc (count + 0) ≡ suc count = omega arith in is ∙ ap exec_id same, tt)
more_reported count (Admin ∷ own) report view counted is = more_reported count own report view counted is
more_reported count (Reported first seen ∷ own) report view counted is = (counted.0, more_reported (suc count) own report view counted.1 (one_later count (report_count own) report.exec is))
more_reported count (Refused number ∷ own) report view counted is = more_reported count own report view counted is

-- the next report
next_counted : (x : ExchangeParts) (order : OrderParts) (kind : ReportKind) (view : OrderViewParts) → AreCounted 0 x.own → AreCounted 0 (x.own ++ Reported (next_report x order kind) view ∷ [])
next_counted x order kind view counted =
    let same : suc (report_count x.own) ≡ suc (0 + report_count x.own) = omega arith in
    more_reported 0 x.own (next_report x order kind) view counted (ap exec_id same)

abbrev Counted : ExchangeParts → Type 0
Counted x = AreCounted 0 x.own

due_counted : (x : ExchangeParts) (content : Content) → Counted x → Counted (due_taken x content).1
due_counted x (Order (Ok leg)) counted = next_counted x (new_order leg) New (view_of (suc (length x.orders)) (new_order leg)) counted
due_counted x (Order (Err fault)) counted = more_refused 0 x.expected x.own counted
due_counted x (Session (GapFill new_number)) counted = counted
due_counted x (Session Logout) counted = more_admin 0 x.own counted
due_counted x (Session (TestRequest id)) counted = more_admin 0 x.own counted
due_counted x content counted = counted

logon_counted : (x : ExchangeParts) (connection number heart : ℕ) (next : Option ℕ) (b : Bool) → Counted x → Counted (logon_answer (with_connection x connection number) connection b heart next).1
logon_counted x connection number heart (Some next) b counted = more_admin 0 x.own counted
logon_counted x connection number heart None true counted = more_admin 0 x.own counted
logon_counted x connection number heart None false counted = two_admin 0 x.own counted

pub take_counted : (x : ExchangeParts) (connection : ℕ) (m : Message) → AreCounted 0 x.own → AreCounted 0 (take x connection m).1.own
take_counted x connection m counted =
    after_take_is x connection m Counted counted
    (λ heart next room newer. logon_counted x connection m.number heart next (m.number == x.expected) counted)
    (λ room due. due_counted x m.content counted)
    (λ live room is. more_admin 0 x.own counted)

change_counted : (x : ExchangeParts) → Counted x → (place : ℕ) (old new : OrderParts) (kind : ReportKind) → IsReported AnyPx x place old new kind → Counted (reported x place new kind).1
change_counted x counted place old new kind is = next_counted x new kind (view_of place new) counted

pub trade_counted : (x : ExchangeParts) (place shares : ℕ) (px : List ℕ) → AreCounted 0 x.own → AreCounted 0 (trade x place shares px).1.own
trade_counted x place shares px counted = trade_is AnyPx x Counted counted (change_counted x counted) place shares px tt

pub cancel_rest_counted : (x : ExchangeParts) (place : ℕ) → AreCounted 0 x.own → AreCounted 0 (cancel_rest x place).1.own
cancel_rest_counted x place counted = cancel_rest_is AnyPx x Counted counted (change_counted x counted) place

pub reject_counted : (x : ExchangeParts) (place : ℕ) → AreCounted 0 x.own → AreCounted 0 (reject x place).1.own
reject_counted x place counted = reject_is AnyPx x Counted counted (change_counted x counted) place

pub bust_counted : (x : ExchangeParts) (place which : ℕ) → AreCounted 0 x.own → AreCounted 0 (bust x place which).1.own
bust_counted x place which counted = bust_is AnyPx x Counted counted (change_counted x counted) place which

pub test_counted : (x : ExchangeParts) → AreCounted 0 x.own → AreCounted 0 (test x).1.own
test_counted x counted = test_is x Counted counted (λ left. more_admin 0 x.own counted)

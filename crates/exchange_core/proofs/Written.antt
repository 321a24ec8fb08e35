-- Whatever an exchange writes can be written.
use Rattle.std.proofs.Common.{◌≡◌, ◌==◌, ℕ, suc, ◌+◌, ◌-◌, ◌≤◌, Bool, true, false, ◌&&◌, ◌||◌, nat_le, List, [], ◌∷◌, length, take, drop, Option, Some, None, Result, Ok, Err, IfOk, subst, arith, length-take, length-drop}
use Rattle.std.specs.List.{All, AllByRecursion}
use Rattle.std.proofs.lemmas.Bool.{and_parts}
use Rattle.std.proofs.lemmas.Bool.Decides.{nat_tests}
use Rattle.std.proofs.lemmas.List.Elements.{All-nil, All-cons, All-append}
use Rattle.fix_tags.specs.Config.{ConfigParts, IsConfig}
use Rattle.fix_tags.specs.Range.{range_end, is_range}
use Rattle.dialect.specs.Addressed.{message_of}
use Rattle.dialect.specs.FreeText.{IsFreeText}
use Rattle.dialect.specs.declared.report.Report.{Report}
use Rattle.dialect.specs.declared.report.ReportKind.{ReportKind}
use Rattle.dialect.specs.declared.report.ReportKind.TheVariants.{New, Canceled, Rejected}
use Rattle.dialect.specs.declared.content.Content.{Content}
use Rattle.dialect.specs.declared.content.Content.TheVariants.{Session, Order}
use Rattle.fix_tags.specs.declared.session_body.SessionBody.TheVariants.{Logon, Heartbeat, TestRequest, ResendRequest, Reject, GapFill, Logout}
use Rattle.dialect.specs.declared.message.Message.{Message}
use Rattle.dialect.specs.OrderView.{OrderViewParts}
use Rattle.dialect.specs.declared.outgoing.Outgoing.{Outgoing}
use Rattle.dialect.specs.Outgoing.{alone}
use Rattle.dialect.specs.Writable.{IsReportBeside, IsWritableContent, IsWritable}
use Rattle.exchange_core.specs.declared.exchange_fault.ExchangeFault.{ExchangeFault}
use Rattle.exchange_core.specs.declared.ending.Ending.TheVariants.{ByCancel, ByReject}
use Rattle.exchange_core.specs.Order.{OrderParts, new_order, view_of}
use Rattle.exchange_core.specs.declared.sent_record.SentRecord.{SentRecord}
use Rattle.exchange_core.specs.declared.sent_record.SentRecord.TheVariants.{Admin, Reported, Refused}
use Rattle.exchange_core.specs.SentRecord.{next_own_number, has_numbers, execution_report, again, closing_fill, run_from, resent, resent_answer}
use Rattle.exchange_core.specs.declared.live_connection.LiveConnection.{LiveConnection}
use Rattle.exchange_core.specs.Exchange.{ExchangeParts, Answer, next_report, next_execution_report, next_message, request, passed_by, with_connection, logon_answer, logon_taken, due_taken, asks, by_number, resends, received}
use Rattle.exchange_core.specs.Exchange as exchange
use Rattle.exchange_core.specs.Acts.{answered, while_live, reported, trade_answer, trade, cancel_rest, reject, bust_answer, bust, end_answer, test_id, tested, test_answer, test}
use Rattle.exchange_core.specs.Sound.{IsRead, IsReadContent, IsOwnSound, IsSound}
use Rattle.exchange_core.proofs.Entries.{chosen, all_take, all_drop}
use Rattle.exchange_core.proofs.Ids.{test_id_is}
use Rattle.exchange_core.proofs.Cases.{HasRoom, by_number_is, take_is}
use Rattle.exchange_core.proofs.Sound.{passed_in_range}
use Rattle.exchange_core.proofs.ActsReport.{IsReported, trade_reports, cancel_rest_reports, reject_reports, bust_reports, test_reports}
use Rattle.exchange_core.proofs.Keeps.{HasNumber, room_for_one, room_for_two, change_reported, new_reported}
use Rattle.exchange_core.proofs.Promises.{parts_of}

abbrev pub AreWritable : List Outgoing → Type 0
AreWritable written = All IsWritable written

one_written : (out : Outgoing) → IsWritable out → AreWritable (out ∷ [])
one_written out is = All-cons IsWritable out [] is (All-nil IsWritable)

-- a message to the peer, with nothing beside it
said : (config : ConfigParts) (number : ℕ) (dup : Bool) (content : Content) → IsConfig config → 1 ≤ number → number ≤ 999_999_998 → IsWritableContent None content → IsWritable (alone (message_of config number dup content))
said config number dup content is from to can = record { from = is.me; to = is.peer; number_from = from; number_to = to; content = can }

-- a report, new or again
report_said : (config : ConfigParts) (number : ℕ) (dup : Bool) (report : Report) (view : OrderViewParts) → IsConfig config → 1 ≤ number → number ≤ 999_999_998 → IsReportBeside report view → IsWritable (execution_report config number dup report view)
report_said config number dup report view is from to can = record { from = is.me; to = is.peer; number_from = from; number_to = to; content = can }

next_said : (x : ExchangeParts) (content : Content) → IsConfig x.config → HasNumber x → IsWritableContent None content → IsWritable (next_message x content)
next_said x content config number can = said x.config (next_own_number x.own) false content config (omega arith) number can

-- an open run of numbers, up to this one
abbrev IsRunWithin : Option ℕ → ℕ → Type 0
IsRunWithin None number = Unit {0}
IsRunWithin (Some first) number = (1 ≤ first) × (suc first ≤ number)

longer_run : (run : Option ℕ) (number : ℕ) → 1 ≤ number → IsRunWithin run number → IsRunWithin (Some (run_from run number)) (suc number)
longer_run None number from within = (from, omega arith)
longer_run (Some first) number from within = (within.0, omega (arith, within.1))

closing_said : (config : ConfigParts) → IsConfig config → (run : Option ℕ) (number : ℕ) → number ≤ 999_999_999 → IsRunWithin run number → AreWritable (closing_fill config run number)
closing_said config is None number to within = All-nil IsWritable
closing_said config is (Some first) number to within =
    one_written (again config first (Session (GapFill number))) (said config first true (Session (GapFill number)) is within.0 (omega (arith, within.1, to)) to)

resent_said : (config : ConfigParts) → IsConfig config → (run : Option ℕ) (number : ℕ) (entries : List SentRecord) → 1 ≤ number → number + length entries ≤ 999_999_999 → IsRunWithin run number → AllByRecursion IsOwnSound entries → AreWritable (resent config run number entries)
resent_said config is run number [] from to within all = closing_said config is run number (omega (arith, to)) within
resent_said config is run number (Admin ∷ entries) from to within all =
    resent_said config is (Some (run_from run number)) (suc number) entries (omega arith) (omega (arith, to)) (longer_run run number from within) all.1
resent_said config is run number (Reported report view ∷ entries) from to within all =
    let out : Outgoing = execution_report config number true report view in
    All-append IsWritable (closing_fill config run number) (out ∷ resent config None (suc number) entries)
    (closing_said config is run number (omega (arith, to)) within)
    (All-cons IsWritable out (resent config None (suc number) entries)
    (report_said config number true report view is from (omega (arith, to)) all.0)
    (resent_said config is None (suc number) entries (omega arith) (omega (arith, to)) tt all.1))
resent_said config is run number (Refused refused ∷ entries) from to within all =
    let out : Outgoing = again config number (Session (Reject refused)) in
    All-append IsWritable (closing_fill config run number) (out ∷ resent config None (suc number) entries)
    (closing_said config is run number (omega (arith, to)) within)
    (All-cons IsWritable out (resent config None (suc number) entries)
    (said config number true (Session (Reject refused)) is from (omega (arith, to)) all.0)
    (resent_said config is None (suc number) entries (omega arith) (omega (arith, to)) tt all.1))

answer_said : (config : ConfigParts) → IsConfig config → (own : List SentRecord) (begin last : ℕ) → next_own_number own ≤ config.max_number → AllByRecursion IsOwnSound own → AreWritable (resent_answer config own begin last)
answer_said config is own begin last fits all =
    let end : ℕ = range_end (length own) last in
    let entries : List SentRecord = drop (begin - 1) (take end own) in
    chosen AreWritable (is_range (length own) begin last) (resent config None begin entries) []
    (λ asked.
    let parts = and_parts (nat_le 1 begin && nat_le begin (length own)) (last == 0 || nat_le begin last) asked in
    let bounds = and_parts (nat_le 1 begin) (nat_le begin (length own)) parts.0 in
    let low : 1 ≤ begin = grind (arith, nat_tests, bounds.0) in
    let high : begin ≤ length own = grind (arith, nat_tests, bounds.1) in
    let limit = is.max_number in
    let few : begin + length entries ≤ length own + 1 = omega (arith, low, high, length-drop (begin - 1) (take end own), length-take end own) in
    resent_said config is None begin entries low (omega (arith, few, fits, limit)) tt
    (all_drop IsOwnSound (begin - 1) (take end own) (all_take IsOwnSound end own all)))
    (λ other. All-nil IsWritable)

-- A message that comes.
heart_of : (content : Content) (heart : ℕ) (reset : Bool) (next : Option ℕ) → content ≡ Session (Logon heart reset next) → IsReadContent content → heart ≤ 999_999
heart_of content heart reset next says read = subst IsReadContent says read

logon_said : (x : ExchangeParts) (connection number heart : ℕ) (next : Option ℕ) (b : Bool) → IsSound x → HasRoom x → number ≤ 999_999_998 → heart ≤ 999_999 → AreWritable (logon_answer (with_connection x connection number) connection b heart next).0
logon_said x connection number heart (Some next) b sound room small low =
    let y : ExchangeParts = with_connection x connection number in
    let expected = passed_in_range x number small sound.expectable in
    let two = room_for_two x sound.config room in
    one_written (next_message y (Session (Logon heart false (Some y.expected)))) (next_said y (Session (Logon heart false (Some y.expected))) sound.config (omega (arith, two)) (low, expected))
logon_said x connection number heart None true sound room small low =
    let y : ExchangeParts = with_connection x connection number in
    let two = room_for_two x sound.config room in
    one_written (next_message y (Session (Logon heart false None))) (next_said y (Session (Logon heart false None)) sound.config (omega (arith, two)) (low, tt))
logon_said x connection number heart None false sound room small low =
    let y : ExchangeParts = with_connection x connection number in
    let expected = passed_in_range x number small sound.expectable in
    let two = room_for_two x sound.config room in
    let second : Outgoing = alone (message_of y.config (suc (next_own_number y.own)) false (request y)) in
    All-cons IsWritable (next_message y (Session (Logon heart false None))) (second ∷ [])
    (next_said y (Session (Logon heart false None)) sound.config (omega (arith, two)) (low, tt))
    (one_written second (said y.config (suc (next_own_number y.own)) false (request y) sound.config (omega arith) two (expected.1, omega arith)))

due_said : (x : ExchangeParts) (content : Content) → IsSound x → HasNumber x → IsReadContent content → AreWritable (due_taken x content).0
due_said x (Order (Ok leg)) sound number read =
    let order : OrderParts = new_order leg in
    let place : ℕ = suc (length x.orders) in
    one_written (next_execution_report x place order New)
    (report_said x.config (next_own_number x.own) false (next_report x order New) (view_of place order) sound.config (omega arith) number
    (new_reported x leg (parts_of x sound) number read))
due_said x (Order (Err fault)) sound number read = one_written (next_message x (Session (Reject x.expected))) (next_said x (Session (Reject x.expected)) sound.config number sound.expectable.to)
due_said x (Session (GapFill new_number)) sound number read = All-nil IsWritable
due_said x (Session Logout) sound number read = one_written (next_message x (Session Logout)) (next_said x (Session Logout) sound.config number tt)
due_said x (Session (TestRequest id)) sound number read = one_written (next_message x (Session (Heartbeat (Some id)))) (next_said x (Session (Heartbeat (Some id))) sound.config number read)
due_said x content sound number read = All-nil IsWritable

asks_said : (x : ExchangeParts) (live : LiveConnection) → IsSound x → HasNumber x → AreWritable (asks x live).0
asks_said x live sound number = one_written (next_message x (request x)) (next_said x (request x) sound.config number (sound.expectable.to, omega arith))

resends_said : (x : ExchangeParts) (content : Content) → IsSound x → AreWritable (resends x content)
resends_said x (Session (ResendRequest begin last)) sound = answer_said x.config sound.config x.own begin last sound.numbered sound.own
resends_said x content sound = All-nil IsWritable

received_said : (x : ExchangeParts) (live : LiveConnection) (number : ℕ) (content : Content) → IsSound x → HasNumber x → IsReadContent content → AreWritable (received x live number content).0
received_said x live number content sound room read =
    let next : Answer = by_number x live number content in
    All-append IsWritable (resends x content) next.0 (resends_said x content sound)
    (by_number_is x live number content (λ (a : Answer). AreWritable a.0) (All-nil IsWritable) (λ due. due_said x content sound room read) (asks_said x live sound room))

pub take_said : (x : ExchangeParts) (connection : ℕ) (m : Message) → IsSound x → IsRead m → AreWritable (exchange.take x connection m).0
take_said x connection m sound read =
    take_is x connection m (λ (a : Answer). AreWritable a.0) (All-nil IsWritable)
    (λ heart reset next room is. logon_said x connection m.number heart next (m.number == x.expected) sound room read.range.number (heart_of m.content heart reset next is.says read.content))
    (λ live room is. received_said x live m.number m.content sound (let two = room_for_two x sound.config room in omega (arith, two)) read.content)

-- What it does by itself.
while_said : (live : Option LiveConnection) (out : Outgoing) → IsWritable out → AreWritable (while_live live (out ∷ []))
while_said None out is = All-nil IsWritable
while_said (Some live) out is = one_written out is

reported_said : (x : ExchangeParts) → IsSound x → (place : ℕ) (old new : OrderParts) (kind : ReportKind) → IsReported (IsFreeText 20) x place old new kind → AreWritable (reported x place new kind).0
reported_said x sound place old new kind is =
    while_said x.live (next_execution_report x place new kind)
    (report_said x.config (next_own_number x.own) false (next_report x new kind) (view_of place new) sound.config (omega arith) (room_for_one x sound.config is.left)
    (change_reported x (parts_of x sound) sound.config place old new kind is))

written_by : (x : ExchangeParts) (r : Result Answer ExchangeFault) → IfOk r (λ a. AreWritable a.0) → IfOk (answered x r).0 AreWritable
written_by x (Ok a) is = is
written_by x (Err fault) is = tt

pub trade_said : (x : ExchangeParts) (place shares : ℕ) (px : List ℕ) → IsSound x → IsFreeText 20 px → IfOk (trade x place shares px).0 AreWritable
trade_said x place shares px sound is = written_by x (trade_answer x place shares px) (trade_reports (IsFreeText 20) x (λ (a : Answer). AreWritable a.0) (reported_said x sound) place shares px is)

pub cancel_rest_said : (x : ExchangeParts) (place : ℕ) → IsSound x → IfOk (cancel_rest x place).0 AreWritable
cancel_rest_said x place sound = written_by x (end_answer x place ByCancel Canceled) (cancel_rest_reports (IsFreeText 20) x (λ (a : Answer). AreWritable a.0) (reported_said x sound) place)

pub reject_said : (x : ExchangeParts) (place : ℕ) → IsSound x → IfOk (reject x place).0 AreWritable
reject_said x place sound = written_by x (end_answer x place ByReject Rejected) (reject_reports (IsFreeText 20) x (λ (a : Answer). AreWritable a.0) (reported_said x sound) place)

pub bust_said : (x : ExchangeParts) (place which : ℕ) → IsSound x → IfOk (bust x place which).0 AreWritable
bust_said x place which sound = written_by x (bust_answer x place which) (bust_reports (IsFreeText 20) x (λ (a : Answer). AreWritable a.0) (reported_said x sound) place which)

pub tested_said : (x : ExchangeParts) → IsSound x → has_numbers 1 x.config x.own ≡ true → AreWritable (tested x).0
tested_said x sound left =
    let number : HasNumber x = room_for_one x sound.config left in
    let content : Content = Session (TestRequest (test_id (next_own_number x.own))) in
    one_written (next_message x content) (next_said x content sound.config number (test_id_is (next_own_number x.own) (omega (arith, number))))

pub test_said : (x : ExchangeParts) → IsSound x → IfOk (test x).0 AreWritable
test_said x sound = written_by x (test_answer x x.live) (test_reports x (λ (a : Answer). AreWritable a.0) (All-nil IsWritable) (λ live is left. tested_said x sound left))

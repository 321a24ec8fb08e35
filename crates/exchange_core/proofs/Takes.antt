-- What the exchange does with a message is what the rules allow.
use Rattle.std.proofs.Common.{◌≡◌, ◌==◌, ℕ, suc, ◌≤◌, ◌<◌, max, Bool, true, false, inl, inr, List, [], ◌∷◌, ◌++◌, length, map, Option, Some, None, Ok, Err, refl, sym, ap, subst, ◌∙◌, arith}
use Rattle.std.specs.List.{All}
use Rattle.std.specs.Option.{option_map}
use Rattle.std.proofs.lemmas.List.{map-append, length-map}
use Rattle.std.proofs.lemmas.List.Elements.{All-nil, All-append, All-weaker, Contains-append_right}
use Rattle.leg.specs.declared.leg.Leg.{Leg}
use Rattle.dialect.specs.declared.fault.DialectFault.{DialectFault}
use Rattle.dialect.specs.declared.report.ReportKind.TheVariants.{New}
use Rattle.dialect.specs.declared.content.Content.{Content}
use Rattle.dialect.specs.declared.content.Content.TheVariants.{Session, Order, ExecutionReport}
use Rattle.fix_tags.specs.declared.session_body.SessionBody.TheVariants.{Logon, Heartbeat, TestRequest, ResendRequest, Reject, GapFill, Logout}
use Rattle.dialect.specs.declared.message.Message.{Message}
use Rattle.dialect.specs.declared.outgoing.Outgoing.{Outgoing}
use Rattle.exchange_core.specs.Acceptance.{Carried, Intake, RuleState, IsDue, IsOther, Takes, MayMove, Took, MayWrite, MayBeUnasked, May, IsLast}
use Rattle.exchange_core.specs.Acceptance as rules
use Rattle.exchange_core.specs.Order.{OrderParts, new_order, view_of}
use Rattle.exchange_core.specs.declared.sent_record.SentRecord.{SentRecord}
use Rattle.exchange_core.specs.declared.sent_record.SentRecord.TheVariants.{Admin, Reported, Refused}
use Rattle.exchange_core.specs.declared.live_connection.LiveConnection.{LiveConnection}
use Rattle.exchange_core.specs.Exchange.{ExchangeParts, Answer, live_connection, next_report, request, passed_by, with_connection, with_logon, with_logon_and_request, logon_answer, logon_taken, expecting_next, order_taken, order_refused, logout_taken, test_taken, due_taken, asks, by_number, resends, received, take, accepted_by}
use Rattle.exchange_core.specs.Keeping.{kept, intake_of, rule_state, carried, written_in, into, IsLastLive, IsExchangeLater}
use Rattle.exchange_core.proofs.Entries.{numbered-seam}
use Rattle.exchange_core.proofs.Cases.{IsLogonTaken, IsLive, by_number_is, take_is}
use Rattle.exchange_core.proofs.Step.{in_connection, silent, one, two}
use Rattle.exchange_core.proofs.Resends.{answer_written}
use Rattle.exchange_core.proofs.After.{by_number_after}

-- the step is one that the rules allow
abbrev pub Keeps : ExchangeParts → Option Carried → ℕ → Answer → Type 0
Keeps x coming connection a = May (rule_state x) coming (rule_state a.1) (into (Some connection) a.0)

-- nothing is done
pub ignored : (x : ExchangeParts) (coming : Option Carried) (connection : ℕ) → Keeps x coming connection ([], x)
ignored x coming connection = silent x x coming (rules.stays refl) refl

-- A message in its turn.
module _ (x : ExchangeParts) (connection number : ℕ) (live : live_connection x ≡ Some connection) (last : IsLast x.last connection) (here : number ≡ x.expected) where
  is_due : (content : Content) → IsDue (intake_of x) (in_connection connection number content)
  is_due content = record { live = live; number = here }

  moved : (content : Content) (t : Intake) → Takes (intake_of x) (in_connection connection number content) t → MayMove (intake_of x) (Some (in_connection connection number content)) t
  moved content t takes = rules.takes (in_connection connection number content) refl takes

  others : (content : Content) → IsOther content → Keeps x (Some (in_connection connection number content)) connection ([], expecting_next x)
  others content other =
      silent x (expecting_next x) (Some (in_connection connection number content)) (moved content (intake_of (expecting_next x)) (rules.other (is_due content) other refl)) refl

  filled : (new_number : ℕ) → Keeps x (Some (in_connection connection number (Session (GapFill new_number)))) connection ([], record x { expected = max x.expected new_number })
  filled new_number =
      let y : ExchangeParts = record x { expected = max x.expected new_number } in
      silent x y (Some (in_connection connection number (Session (GapFill new_number)))) (moved (Session (GapFill new_number)) (intake_of y) (rules.fill (is_due (Session (GapFill new_number))) new_number refl refl)) refl

  tested : (id : List ℕ) → Keeps x (Some (in_connection connection number (Session (TestRequest id)))) connection (test_taken x id)
  tested id =
      let content : Content = Session (TestRequest id) in
      let coming : Option Carried = Some (in_connection connection number content) in
      let y : ExchangeParts = (test_taken x id).1 in
      let took : Took (intake_of x) (intake_of y) coming content = record { message = in_connection connection number content; came = refl; due = is_due content; says = refl; passed = refl } in
      one x y coming Admin connection (Session (Heartbeat (Some id))) (moved content (intake_of y) (rules.other (is_due content) tt refl)) refl tt last.from (omega (arith, last.same)) (inr (refl, inr took))

  logged_out : Keeps x (Some (in_connection connection number (Session Logout))) connection (logout_taken x)
  logged_out =
      let coming : Option Carried = Some (in_connection connection number (Session Logout)) in
      let y : ExchangeParts = (logout_taken x).1 in
      let count : length (accepted_by x) ≡ length x.orders = length-map x.orders (λ order. order.leg) in
      let mark : intake_of y ≡ record (intake_of x) { expected = suc x.expected; live = None; closed_at = Some (length (accepted_by x)) } = ap (λ n. let i : Intake = record (intake_of x) { expected = suc x.expected; live = None; closed_at = Some n } in i) (sym count) in
      one x y coming Admin connection (Session Logout) (moved (Session Logout) (intake_of y) (rules.logout (is_due (Session Logout)) refl mark)) refl tt last.from (omega (arith, last.same)) (inr (refl, inl (length x.orders, refl)))

  refused : (content : Content) (fault : DialectFault) → content ≡ Order (Err fault) → IsOther content → Keeps x (Some (in_connection connection number content)) connection (order_refused x)
  refused content fault is other =
      let coming : Option Carried = Some (in_connection connection number content) in
      let y : ExchangeParts = (order_refused x).1 in
      let took : Took (intake_of x) (intake_of y) coming (Order (Err fault)) = record { message = in_connection connection number content; came = refl; due = is_due content; says = is; passed = refl } in
      one x y coming (Refused x.expected) connection (Session (Reject x.expected)) (moved content (intake_of y) (rules.other (is_due content) other refl)) refl (inr (Err fault, took, refl)) last.from (omega (arith, last.same)) (inl refl)

  ordered : (leg : Leg) → Keeps x (Some (in_connection connection number (Order (Ok leg)))) connection (order_taken x leg)
  ordered leg =
      let content : Content = Order (Ok leg) in
      let coming : Option Carried = Some (in_connection connection number content) in
      let y : ExchangeParts = (order_taken x leg).1 in
      let report = next_report x (new_order leg) New in
      let entry : SentRecord = Reported report (view_of (suc (length x.orders)) (new_order leg)) in
      let legs : accepted_by y ≡ accepted_by x ++ leg ∷ [] = map-append (λ (order : OrderParts). order.leg) x.orders (new_order leg ∷ []) in
      let accepts : intake_of y ≡ record (intake_of x) { expected = suc x.expected; accepted = accepted_by x ++ leg ∷ [] } = ap (λ ls. let i : Intake = record (intake_of x) { expected = suc x.expected; accepted = ls } in i) legs in
      one x y coming entry connection (ExecutionReport (Ok report)) (moved content (intake_of y) (rules.order (is_due content) leg refl accepts)) refl
      (record { place = length x.orders; leg = leg; there = numbered-seam (λ (order : OrderParts). order.leg) x.orders (new_order leg) []; same = refl })
      last.from (omega (arith, last.same)) (inl refl)

  due_keeps : (content : Content) → Keeps x (Some (in_connection connection number content)) connection (due_taken x content)
  due_keeps (Order (Ok leg)) = ordered leg
  due_keeps (Order (Err fault)) = refused (Order (Err fault)) fault refl tt
  due_keeps (Session (GapFill new_number)) = filled new_number
  due_keeps (Session Logout) = logged_out
  due_keeps (Session (TestRequest id)) = tested id
  due_keeps content = others content tt

-- A message of the live connection, whatever its number.
live_is : (x : ExchangeParts) (connection : ℕ) (live : LiveConnection) → IsLive x connection live → live_connection x ≡ Some connection
live_is x connection live is = ap (option_map (λ (l : LiveConnection). l.connection)) is.is ∙ ap Some is.here

-- what is missing is asked for in it
asked_live : (x : ExchangeParts) (live : LiveConnection) → x.live ≡ Some live → intake_of (asks x live).1 ≡ intake_of x
asked_live x live is =
    let same : live_connection (asks x live).1 ≡ live_connection x = ap (option_map (λ (l : LiveConnection). l.connection)) (sym is) in
    ap (λ at. let i : Intake = record (intake_of x) { live = at } in i) same

module _ (x : ExchangeParts) (connection number : ℕ) (live : LiveConnection) (is : IsLive x connection live) (last : IsLast x.last connection) where
  asks_keeps : (content : Content) → Keeps x (Some (in_connection connection number content)) connection (asks x live)
  asks_keeps content =
      let coming : Option Carried = Some (in_connection connection number content) in
      one x (asks x live).1 coming Admin connection (request x) (rules.stays (asked_live x live is.is)) refl tt last.from (omega (arith, last.same)) (inr (refl, refl))

  by_number_keeps : (content : Content) → Keeps x (Some (in_connection connection number content)) connection (by_number x live number content)
  by_number_keeps content =
      let coming : Option Carried = Some (in_connection connection number content) in
      by_number_is x live number content (Keeps x coming connection) (ignored x coming connection)
      (λ due. due_keeps x connection number (live_is x connection live is) last due content)
      (asks_keeps content)

-- what a request is answered with, after own numbers were used
resends_written : (x y : ExchangeParts) (coming : Option Carried) (connection : ℕ) (content : Content) → 1 ≤ connection → connection ≤ y.last → (more : List SentRecord) → y.own ≡ x.own ++ more → All (MayWrite (rule_state x) coming (rule_state y)) (map (written_in connection) (resends x content))
resends_written x y coming connection (Session (ResendRequest begin last)) from to more own =
    answer_written (rule_state x) coming (rule_state y) connection from to x.config x.own more begin last (ap (map kept) own)
resends_written x y coming connection content from to more own = All-nil (MayWrite (rule_state x) coming (rule_state y))

-- what is unasked stays so with more messages before it
more_written : (s : RuleState) (into_connection : ℕ) (first rest : List Outgoing) (connection : ℕ) → MayBeUnasked s (map (written_in into_connection) rest) connection → MayBeUnasked s (map (written_in into_connection) (first ++ rest)) connection
more_written s into_connection first rest connection (inl old) = inl old
more_written s into_connection first rest connection (inr now) = inr (record {
  message = now.message;
  there = rw (map-append (written_in into_connection) first rest) (Contains-append_right (map (written_in into_connection) first) (map (written_in into_connection) rest) now.message now.there);
  same = now.same;
  says = now.says;
})

-- messages before those of a step
written_before : (s : RuleState) (coming : Option Carried) (t : RuleState) (connection : ℕ) (first rest : List Outgoing) → All (MayWrite s coming t) (map (written_in connection) first) → May s coming t (map (written_in connection) rest) → May s coming t (map (written_in connection) (first ++ rest))
written_before s coming t connection first rest writes step = record {
  moves = step.moves;
  tests = step.tests;
  refusable = step.refusable;
  others = step.others;
  own = step.own;
  writes = rw (map-append (written_in connection) first rest) (All-append (MayWrite s coming t) (map (written_in connection) first) (map (written_in connection) rest) writes step.writes);
  unasked = step.unasked;
  only = All-weaker (MayBeUnasked s (map (written_in connection) rest)) (MayBeUnasked s (map (written_in connection) (first ++ rest))) (more_written s connection first rest) t.unasked step.only;
}

received_keeps : (x : ExchangeParts) (connection number : ℕ) (live : LiveConnection) (content : Content) → IsLive x connection live → IsLast x.last connection → Keeps x (Some (in_connection connection number content)) connection (received x live number content)
received_keeps x connection number live content is last =
    let coming : Option Carried = Some (in_connection connection number content) in
    let next : Answer = by_number x live number content in
    let step : Keeps x coming connection next = by_number_keeps x connection number live is last content in
    let after : IsExchangeLater x next.1 = by_number_after x live number content in
    written_before (rule_state x) coming (rule_state next.1) connection (resends x content) next.0
    (resends_written x next.1 coming connection content last.from (omega (arith, last.same, after.last)) after.own.0 after.own.1) step

-- A Logon of a newer connection.
module _ (x : ExchangeParts) (connection number heart : ℕ) (reset : Bool) (newer : x.last < connection) (above : x.expected ≤ number) where
  new_logon : (next : Option ℕ) (t : Intake) → t ≡ intake_of (with_connection x connection number) → MayMove (intake_of x) (Some (in_connection connection number (Session (Logon heart reset next)))) t
  new_logon next t is =
      rules.takes (in_connection connection number (Session (Logon heart reset next))) refl
      (rules.new_logon (record { heart = heart; reset = reset; next = next; says = refl; newer = newer; number = above }) is)

  answered : (next told : Option ℕ) → rules.TellsExpected (passed_by x number) told → Keeps x (Some (in_connection connection number (Session (Logon heart reset next)))) connection (with_logon (with_connection x connection number) heart told)
  answered next told tells =
      let coming : Option Carried = Some (in_connection connection number (Session (Logon heart reset next))) in
      let y : ExchangeParts = (with_logon (with_connection x connection number) heart told).1 in
      one x y coming Admin connection (Session (Logon heart false told)) (new_logon next (intake_of y) refl) refl tt (omega arith) (omega arith) (inr (refl, tells))

  answered_and_asked : Keeps x (Some (in_connection connection number (Session (Logon heart reset None)))) connection (with_logon_and_request (with_connection x connection number) connection heart)
  answered_and_asked =
      let coming : Option Carried = Some (in_connection connection number (Session (Logon heart reset None))) in
      let y : ExchangeParts = (with_logon_and_request (with_connection x connection number) connection heart).1 in
      two x y coming connection (Session (Logon heart false None)) (request y) (new_logon None (intake_of y) refl) refl (omega arith) (omega arith) tt refl

  by_due : (b : Bool) (next : Option ℕ) → Keeps x (Some (in_connection connection number (Session (Logon heart reset next)))) connection (logon_answer (with_connection x connection number) connection b heart next)
  by_due b (Some next) = answered (Some next) (Some (passed_by x number)) refl
  by_due true None = answered None None tt
  by_due false None = answered_and_asked

logon_keeps : (x : ExchangeParts) (connection number : ℕ) (content : Content) (heart : ℕ) (reset : Bool) (next : Option ℕ) → IsLogonTaken x connection number content heart reset next → Keeps x (Some (in_connection connection number content)) connection (logon_taken x connection number heart next)
logon_keeps x connection number content heart reset next is =
    subst (λ c. Keeps x (Some (in_connection connection number c)) connection (logon_taken x connection number heart next)) (sym is.says)
    (by_due x connection number heart reset is.newer is.above (number == x.expected) next)

-- whatever comes
pub take_keeps : (x : ExchangeParts) (connection : ℕ) (m : Message) → IsLastLive x → Keeps x (Some (carried connection m)) connection (take x connection m)
take_keeps x connection m sound =
    take_is x connection m (Keeps x (Some (carried connection m)) connection) (ignored x (Some (carried connection m)) connection)
    (λ heart reset next room is. logon_keeps x connection m.number m.content heart reset next is)
    (λ live room is. received_keeps x connection m.number live m.content is (sound connection (live_is x connection live is)))

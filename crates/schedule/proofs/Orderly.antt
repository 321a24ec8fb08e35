-- What our exchange keeps of its reports: it refuses no order, its reports are on accepted legs, counted, and fit the
-- share rule.
use Rattle.std.proofs.Common.{◌≡◌, ◌==◌, ◌≤◌, ◌+◌, ℕ, suc, Bool, true, false, List, [], ◌∷◌, ◌++◌, length, Option, Some, None, Ok, Err, refl, sym, ap, subst, ◌∙◌, length-append, arith}
use Rattle.std.proofs.lemmas.Bool.Decides.{nat_tests}
use Rattle.std.proofs.lemmas.List.{append-nil, map-append}
use Rattle.fix_tags.specs.Config.{ConfigParts}
use Rattle.leg.specs.Numbered.{numbered}
use Rattle.leg.proofs.Numbered.{numbered-append}
use Rattle.leg.specs.declared.leg.Leg.{Leg}
use Rattle.dialect.specs.declared.report.Report.{Report}
use Rattle.dialect.specs.declared.report.ReportKind.{ReportKind}
use Rattle.dialect.specs.declared.report.ReportKind.TheVariants.{New}
use Rattle.dialect.specs.declared.content.Content.{Content}
use Rattle.dialect.specs.declared.content.Content.TheVariants.{Session, Order}
use Rattle.fix_tags.specs.declared.session_body.SessionBody.TheVariants.{TestRequest, GapFill, Logout}
use Rattle.dialect.specs.declared.message.Message.{Message}
use Rattle.exchange_core.specs.Order.{OrderParts, new_order, view_of}
use Rattle.exchange_core.specs.declared.sent_record.SentRecord.{SentRecord}
use Rattle.exchange_core.specs.declared.sent_record.SentRecord.TheVariants.{Admin, Reported, Refused}
use Rattle.exchange_core.specs.SentRecord.{next_own_number, report_count, next_exec}
use Rattle.exchange_core.specs.Exchange.{ExchangeParts, new_exchange, accepted_by, next_report, logon_answer, with_connection, due_taken, asks, take, drop_connection}
use Rattle.exchange_core.specs.Acts.{reported, tested}
use Rattle.exchange_core.specs.Keeping.{AreCounted}
use Rattle.exchange_core.proofs.After.{legs_kept}
use Rattle.exchange_core.proofs.Cases.{HasRoom, after_take_is}
use Rattle.exchange_core.proofs.ActsReport.{AnyPx, IsChange, IsReported, same_leg, trade_is, cancel_rest_is, reject_is, bust_is, test_is}
use Rattle.exchange_core.proofs.Counted.{take_counted, trade_counted, cancel_rest_counted, reject_counted, bust_counted, test_counted}
use Rattle.schedule.specs.declared.act.Act.{Act}
use Rattle.schedule.specs.declared.act.Act.TheVariants as act
use Rattle.schedule.specs.World.{reports_in}
use Rattle.schedule.specs.Happening.{act_of}
use Rattle.venue_line.proofs.Kept.{numbered_none}
use Rattle.schedule.proofs.Clean.{IsClean, IsRead, take_clean, act_clean}
use Rattle.schedule.proofs.ReportedLegs.{AreOn, made_on, take_on, act_on}
use Rattle.schedule.proofs.ReportsFit.{AreApart, AreMatched, legs_of, report_on, reported_match, accepted_match}

-- reports of own numbers, one list behind the other
pub reports_in-append : (xs ys : List SentRecord) → reports_in (xs ++ ys) ≡ reports_in xs ++ reports_in ys
reports_in-append [] ys = refl
reports_in-append (Admin ∷ xs) ys = reports_in-append xs ys
reports_in-append (Refused number ∷ xs) ys = reports_in-append xs ys
reports_in-append (Reported report view ∷ xs) ys = ap (λ l. report ∷ l) (reports_in-append xs ys)

count_is : (own : List SentRecord) → report_count own ≡ length (reports_in own)
count_is [] = refl
count_is (Admin ∷ own) = count_is own
count_is (Refused number ∷ own) = count_is own
count_is (Reported report view ∷ own) = ap suc (count_is own)

pub reports_within : (own : List SentRecord) → length (reports_in own) ≤ length own
reports_within [] = omega arith
reports_within (Admin ∷ own) = let rest = reports_within own in omega arith
reports_within (Refused number ∷ own) = let rest = reports_within own in omega arith
reports_within (Reported report view ∷ own) = let rest = reports_within own in omega arith

-- own numbers that a message may have
pub record HasSmallNumbers (x : ExchangeParts) : Type 0 where
  pub limit : x.config.max_number ≤ 999999999
  pub used : next_own_number x.own ≤ x.config.max_number

small_after : (x y : ExchangeParts) (more : List SentRecord) → y.config ≡ x.config → y.own ≡ x.own ++ more
    → next_own_number x.own + length more ≤ x.config.max_number → HasSmallNumbers x → HasSmallNumbers y
small_after x y more config own left small =
    let same : y.config.max_number ≡ x.config.max_number = ap (λ (c : ConfigParts). c.max_number) config in
    let all : length y.own ≡ length x.own + length more = ap (λ (l : List SentRecord). length l) own
    ∙ length-append x.own more in
    let limit = small.limit in
    record { limit = omega (arith, limit, same); used = omega (arith, all, same, left) }

-- orders and reports match, where the accepted legs are apart
abbrev pub IsMatched : ExchangeParts → Type 0
IsMatched x = AreApart (accepted_by x) → AreMatched x.orders (reports_in x.own)

-- what our exchange keeps
pub record IsOrderly (x : ExchangeParts) : Type 0 where
  pub clean : IsClean x.own
  pub on : AreOn (accepted_by x) x.own
  pub counted : AreCounted 0 x.own
  pub small : HasSmallNumbers x
  pub matched : IsMatched x

-- no order changed, and no report was made
unreported : (x y : ExchangeParts) (more : List SentRecord) → y.orders ≡ x.orders → y.own ≡ x.own ++ more
    → reports_in more ≡ [] → IsMatched x → IsMatched y
unreported x y more orders own none matched apart =
    let reports : reports_in y.own ≡ reports_in x.own =
    ap reports_in own
    ∙ (reports_in-append x.own more ∙ (ap (λ l. reports_in x.own ++ l) none ∙ append-nil (reports_in x.own))) in
    let before = matched (subst (λ o. AreApart (legs_of o)) orders apart) in
    subst (λ o. AreMatched o (reports_in y.own)) (sym orders)
    (subst (AreMatched x.orders) (sym reports) before)

-- one report more
reports_push : (own : List SentRecord) (entry : SentRecord) (report : Report) → reports_in (entry ∷ []) ≡ report ∷ []
    → reports_in (own ++ entry ∷ []) ≡ reports_in own ++ report ∷ []
reports_push own entry report is = reports_in-append own (entry ∷ []) ∙ ap (λ l. reports_in own ++ l) is

next_is : (x : ExchangeParts) → next_exec x.own ≡ suc (length (reports_in x.own))
next_is x = ap suc (count_is x.own)

module _ (x : ExchangeParts) (o : IsOrderly x) where
  -- an order is accepted
  order_matched : (leg : Leg) → IsMatched (due_taken x (Order (Ok leg))).1
  order_matched leg apart =
      let y = (due_taken x (Order (Ok leg))).1 in
      let all : legs_of (x.orders ++ new_order leg ∷ []) ≡ legs_of x.orders ++ leg ∷ [] =
      map-append (λ (order : OrderParts). order.leg) x.orders (new_order leg ∷ []) in
      let before : AreApart (legs_of x.orders) =
      λ i j a b is there same.
      apart i j a b (ap (numbered i) all ∙ numbered-append i (legs_of x.orders) (leg ∷ []) a is)
      (ap (numbered j) all ∙ numbered-append j (legs_of x.orders) (leg ∷ []) b there) same in
      let report : Report = report_on leg.id (next_exec x.own) New in
      let same : report ≡ report_on leg.id (suc (length (reports_in x.own))) New =
      ap (λ n. report_on leg.id n New) (next_is x) in
      let reports : reports_in y.own ≡ reports_in x.own ++ report_on leg.id (suc (length (reports_in x.own))) New ∷ [] =
      reports_push x.own (Reported report (view_of (suc (length x.orders)) (new_order leg))) report refl
      ∙ ap (λ r. reports_in x.own ++ r ∷ []) same in
      subst (AreMatched (x.orders ++ new_order leg ∷ [])) (sym reports)
      (accepted_match x.orders (reports_in x.own) (o.matched before) leg
      (λ r there. made_on (legs_of x.orders) x.own r o.on there) apart)

  due_matched : (content : Content) → IsMatched (due_taken x content).1
  due_matched (Order (Ok leg)) = order_matched leg
  due_matched (Order (Err fault)) =
      unreported x (due_taken x (Order (Err fault))).1 (Refused x.expected ∷ []) refl refl refl o.matched
  due_matched (Session (GapFill new_number)) = o.matched
  due_matched (Session Logout) = unreported x (due_taken x (Session Logout)).1 (Admin ∷ []) refl refl refl o.matched
  due_matched (Session (TestRequest id)) = unreported x (due_taken x (Session (TestRequest id))).1 (Admin ∷ []) refl refl refl o.matched
  due_matched content = o.matched

  logon_matched : (connection number heart : ℕ) (next : Option ℕ) (due : Bool)
      → IsMatched (logon_answer (with_connection x connection number) connection due heart next).1
  logon_matched connection number heart (Some next) due =
      unreported x (logon_answer (with_connection x connection number) connection due heart (Some next)).1
      (Admin ∷ []) refl refl refl o.matched
  logon_matched connection number heart None true =
      unreported x (logon_answer (with_connection x connection number) connection true heart None).1
      (Admin ∷ []) refl refl refl o.matched
  logon_matched connection number heart None false =
      unreported x (logon_answer (with_connection x connection number) connection false heart None).1
      (Admin ∷ Admin ∷ []) refl refl refl o.matched

  take_matched : (connection : ℕ) (m : Message) → IsMatched (take x connection m).1
  take_matched connection m =
      after_take_is x connection m IsMatched o.matched
      (λ heart next room newer. logon_matched connection m.number heart next (m.number == x.expected))
      (λ room due. due_matched m.content)
      (λ live room is. unreported x (asks x live).1 (Admin ∷ []) refl refl refl o.matched)

  -- a change is reported
  reported_matched : (place : ℕ) (old new : OrderParts) (kind : ReportKind) → IsReported AnyPx x place old new kind
      → IsMatched (reported x place new kind).1
  reported_matched place old new kind is apart =
      let y = (reported x place new kind).1 in
      let leg : new.leg ≡ old.leg = same_leg AnyPx (next_exec x.own) old new kind is.change in
      let before : AreApart (legs_of x.orders) = subst AreApart (legs_kept x.orders place old new is.there leg) apart in
      let change : IsChange AnyPx (suc (length (reports_in x.own))) old new kind =
      subst (λ n. IsChange AnyPx n old new kind) (next_is x) is.change in
      let report : Report = report_on new.leg.id (next_exec x.own) kind in
      let same : report ≡ report_on new.leg.id (suc (length (reports_in x.own))) kind =
      ap (λ n. report_on new.leg.id n kind) (next_is x) in
      let reports : reports_in y.own
      ≡ reports_in x.own ++ report_on new.leg.id (suc (length (reports_in x.own))) kind ∷ [] =
      reports_push x.own (Reported report (view_of place new)) report refl
      ∙ ap (λ r. reports_in x.own ++ r ∷ []) same in
      let left : next_own_number x.own + 1 ≤ x.config.max_number = (let l = is.left in grind (arith, nat_tests)) in
      let within = reports_within x.own in
      let limit = o.small.limit in
      subst (AreMatched y.orders) (sym reports)
      (reported_match x.orders (reports_in x.own) (o.matched before) place old new kind is.there change
      (omega (arith, left, within, limit)) before)

  act_matched : (a : Act) → IsMatched (act_of a x).1
  act_matched (act.Trade order shares px) = trade_is AnyPx x IsMatched o.matched reported_matched order shares px tt
  act_matched (act.CancelRest order) = cancel_rest_is AnyPx x IsMatched o.matched reported_matched order
  act_matched (act.Reject order) = reject_is AnyPx x IsMatched o.matched reported_matched order
  act_matched (act.Bust order which) = bust_is AnyPx x IsMatched o.matched reported_matched order which
  act_matched act.Test =
      test_is x IsMatched o.matched (λ left. unreported x (tested x).1 (Admin ∷ []) refl refl refl o.matched)

  -- numbers
  due_small : (content : Content) → HasRoom x → HasSmallNumbers (due_taken x content).1
  due_small (Order (Ok leg)) room = small_after x (due_taken x (Order (Ok leg))).1
      (Reported (next_report x (new_order leg) New)
      (view_of (suc (length x.orders)) (new_order leg)) ∷ []) refl refl (omega arith) o.small
  due_small (Order (Err fault)) room =
      small_after x (due_taken x (Order (Err fault))).1 (Refused x.expected ∷ []) refl refl (omega arith) o.small
  due_small (Session (GapFill new_number)) room = record { limit = o.small.limit; used = o.small.used }
  due_small (Session Logout) room = small_after x (due_taken x (Session Logout)).1 (Admin ∷ []) refl refl (omega arith) o.small
  due_small (Session (TestRequest id)) room =
      small_after x (due_taken x (Session (TestRequest id))).1 (Admin ∷ []) refl refl (omega arith) o.small
  due_small content room = record { limit = o.small.limit; used = o.small.used }

  logon_small : (connection number heart : ℕ) (next : Option ℕ) (due : Bool) → HasRoom x
      → HasSmallNumbers (logon_answer (with_connection x connection number) connection due heart next).1
  logon_small connection number heart (Some next) due room =
      small_after x (logon_answer (with_connection x connection number) connection due heart (Some next)).1
      (Admin ∷ []) refl refl (omega arith) o.small
  logon_small connection number heart None true room =
      small_after x (logon_answer (with_connection x connection number) connection true heart None).1
      (Admin ∷ []) refl refl (omega arith) o.small
  logon_small connection number heart None false room =
      small_after x (logon_answer (with_connection x connection number) connection false heart None).1
      (Admin ∷ Admin ∷ []) refl refl (omega arith) o.small

  take_small : (connection : ℕ) (m : Message) → HasSmallNumbers (take x connection m).1
  take_small connection m =
      after_take_is x connection m HasSmallNumbers o.small
      (λ heart next room newer. logon_small connection m.number heart next (m.number == x.expected) room)
      (λ room due. due_small m.content room)
      (λ live room is. small_after x (asks x live).1 (Admin ∷ []) refl refl (omega arith) o.small)

  reported_small : (place : ℕ) (old new : OrderParts) (kind : ReportKind) → IsReported AnyPx x place old new kind
      → HasSmallNumbers (reported x place new kind).1
  reported_small place old new kind is =
      let left : next_own_number x.own + 1 ≤ x.config.max_number = (let l = is.left in grind (arith, nat_tests)) in
      small_after x (reported x place new kind).1 (Reported (next_report x new kind) (view_of place new) ∷ []) refl refl
      left o.small

  act_small : (a : Act) → HasSmallNumbers (act_of a x).1
  act_small (act.Trade order shares px) = trade_is AnyPx x HasSmallNumbers o.small reported_small order shares px tt
  act_small (act.CancelRest order) = cancel_rest_is AnyPx x HasSmallNumbers o.small reported_small order
  act_small (act.Reject order) = reject_is AnyPx x HasSmallNumbers o.small reported_small order
  act_small (act.Bust order which) = bust_is AnyPx x HasSmallNumbers o.small reported_small order which
  act_small act.Test =
      test_is x HasSmallNumbers o.small
      (λ left.
      (let room : next_own_number x.own + 1 ≤ x.config.max_number = (let l = left in grind (arith, nat_tests)) in
      small_after x (tested x).1 (Admin ∷ []) refl refl room o.small))

  act_counted : (a : Act) → AreCounted 0 (act_of a x).1.own
  act_counted (act.Trade order shares px) = trade_counted x order shares px o.counted
  act_counted (act.CancelRest order) = cancel_rest_counted x order o.counted
  act_counted (act.Reject order) = reject_counted x order o.counted
  act_counted (act.Bust order which) = bust_counted x order which o.counted
  act_counted act.Test = test_counted x o.counted

  -- whatever comes, and whatever it does
  pub take_orderly : (connection : ℕ) (m : Message) → IsRead m.content → IsOrderly (take x connection m).1
  take_orderly connection m read = record {
    clean = take_clean x connection m read o.clean;
    on = take_on x connection m o.on;
    counted = take_counted x connection m o.counted;
    small = take_small connection m;
    matched = take_matched connection m;
  }

  pub act_orderly : (a : Act) → IsOrderly (act_of a x).1
  act_orderly a = record {
    clean = act_clean a x o.clean;
    on = act_on a x o.on;
    counted = act_counted a;
    small = act_small a;
    matched = act_matched a;
  }

pub drop_orderly : (x : ExchangeParts) → IsOrderly x → IsOrderly (drop_connection x)
drop_orderly x o = record {
  clean = o.clean;
  on = o.on;
  counted = o.counted;
  small = record { limit = o.small.limit; used = o.small.used };
  matched = o.matched;
}

-- a new exchange has no orders
pub new_orderly : (config : ConfigParts) → 1 ≤ config.max_number → config.max_number ≤ 999999999
    → IsOrderly (new_exchange config)
new_orderly config least most = record {
  clean = tt;
  on = tt;
  counted = tt;
  small = record { limit = most; used = least };
  matched = λ apart.
      record { match = λ place order is. absurd (numbered_none place is); fit = tt };
}

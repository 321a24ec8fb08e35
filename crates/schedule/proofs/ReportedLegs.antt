-- Each report of our exchange is on a leg that it accepted.
use Rattle.std.proofs.Common.{◌≡◌, ◌==◌, ℕ, zero, suc, Bool, true, false, List, [], ◌∷◌, ◌++◌, Option, Some, None, Ok, Err, refl, sym, ap, subst, arith}
use Rattle.std.specs.List.{Contains}
use Rattle.std.proofs.lemmas.List.{map-append}
use Rattle.std.proofs.lemmas.List.Elements.{Contains-append_left, Contains-push}
use Rattle.leg.specs.LegId.{LegIdParts}
use Rattle.leg.specs.declared.leg.Leg.{Leg}
use Rattle.dialect.specs.declared.report.Report.{Report}
use Rattle.dialect.specs.declared.report.ReportKind.{ReportKind}
use Rattle.dialect.specs.declared.content.Content.{Content}
use Rattle.dialect.specs.declared.content.Content.TheVariants.{Session, Order}
use Rattle.fix_tags.specs.declared.session_body.SessionBody.TheVariants.{TestRequest, GapFill, Logout}
use Rattle.dialect.specs.declared.message.Message.{Message}
use Rattle.exchange_core.specs.Order.{OrderParts, new_order}
use Rattle.exchange_core.specs.declared.sent_record.SentRecord.{SentRecord}
use Rattle.exchange_core.specs.declared.sent_record.SentRecord.TheVariants.{Admin, Reported, Refused}
use Rattle.exchange_core.specs.SentRecord.{next_exec}
use Rattle.exchange_core.specs.Exchange.{ExchangeParts, accepted_by, logon_answer, with_connection, due_taken, take}
use Rattle.exchange_core.specs.Acts.{reported}
use Rattle.exchange_core.proofs.After.{legs_kept}
use Rattle.exchange_core.proofs.Cases.{after_take_is}
use Rattle.exchange_core.proofs.ActsReport.{AnyPx, IsReported, same_leg, trade_is, cancel_rest_is, reject_is, bust_is, test_is}
use Rattle.schedule.specs.declared.act.Act.{Act}
use Rattle.schedule.specs.declared.act.Act.TheVariants as act
use Rattle.schedule.specs.World.{reports_in}
use Rattle.schedule.specs.Happening.{act_of}
use Rattle.venue_line.proofs.Kept.{numbered_contains}
use Rattle.venue_line.proofs.LineGives.{contains_map}

-- one of these legs has this number
pub record IsNumberOf (legs : List Leg) (id : LegIdParts) : Type 0 where
  pub leg : Leg
  pub there : Contains legs leg
  pub same : leg.id ≡ id

-- each report is on one of these legs
abbrev pub AreOn : List Leg → List SentRecord → Type 0
AreOn legs [] = Unit {0}
AreOn legs (Admin ∷ own) = AreOn legs own
AreOn legs (Refused number ∷ own) = AreOn legs own
AreOn legs (Reported report view ∷ own) = IsNumberOf legs report.id × AreOn legs own

on-append : (legs : List Leg) (xs ys : List SentRecord) → AreOn legs xs → AreOn legs ys → AreOn legs (xs ++ ys)
on-append legs [] ys on more = more
on-append legs (Admin ∷ xs) ys on more = on-append legs xs ys on more
on-append legs (Refused number ∷ xs) ys on more = on-append legs xs ys on more
on-append legs (Reported report view ∷ xs) ys on more = (on.0, on-append legs xs ys on.1 more)

-- also once more legs are accepted
number_more : (legs more : List Leg) (id : LegIdParts) → IsNumberOf legs id → IsNumberOf (legs ++ more) id
number_more legs more id is = record {
  leg = is.leg;
  there = Contains-append_left legs more is.leg is.there;
  same =
      is.same;
}

on-more : (legs more : List Leg) (own : List SentRecord) → AreOn legs own → AreOn (legs ++ more) own
on-more legs more [] on = on
on-more legs more (Admin ∷ own) on = on-more legs more own on
on-more legs more (Refused number ∷ own) on = on-more legs more own on
on-more legs more (Reported report view ∷ own) on = (number_more legs more report.id on.0, on-more legs more own on.1)

abbrev ReportsOn : ExchangeParts → Type 0
ReportsOn x = AreOn (accepted_by x) x.own

order_on : (x : ExchangeParts) (leg : Leg) → ReportsOn x → ReportsOn (due_taken x (Order (Ok leg))).1
order_on x leg on =
    let all : accepted_by (due_taken x (Order (Ok leg))).1 ≡ accepted_by x ++ leg ∷ [] =
    map-append (λ (o : OrderParts). o.leg) x.orders (new_order leg ∷ []) in
    subst (λ legs. AreOn legs (due_taken x (Order (Ok leg))).1.own) (sym all)
    (on-append (accepted_by x ++ leg ∷ []) x.own _ (on-more (accepted_by x) (leg ∷ []) x.own on)
    (record { leg = leg; there = Contains-push (accepted_by x) leg; same = refl }, tt))

due_on : (x : ExchangeParts) (content : Content) → ReportsOn x → ReportsOn (due_taken x content).1
due_on x (Order (Ok leg)) on = order_on x leg on
due_on x (Order (Err fault)) on = on-append (accepted_by x) x.own (Refused x.expected ∷ []) on tt
due_on x (Session (GapFill new_number)) on = on
due_on x (Session Logout) on = on-append (accepted_by x) x.own (Admin ∷ []) on tt
due_on x (Session (TestRequest id)) on = on-append (accepted_by x) x.own (Admin ∷ []) on tt
due_on x content on = on

logon_on : (x : ExchangeParts) (connection number heart : ℕ) (next : Option ℕ) (due : Bool) → ReportsOn x
    → ReportsOn (logon_answer (with_connection x connection number) connection due heart next).1
logon_on x connection number heart (Some next) due on = on-append (accepted_by x) x.own (Admin ∷ []) on tt
logon_on x connection number heart None true on = on-append (accepted_by x) x.own (Admin ∷ []) on tt
logon_on x connection number heart None false on = on-append (accepted_by x) x.own (Admin ∷ Admin ∷ []) on tt

pub take_on : (x : ExchangeParts) (connection : ℕ) (m : Message) → ReportsOn x → ReportsOn (take x connection m).1
take_on x connection m on =
    after_take_is x connection m ReportsOn on
    (λ heart next room newer. logon_on x connection m.number heart next (m.number == x.expected) on)
    (λ room due. due_on x m.content on)
    (λ live room is. on-append (accepted_by x) x.own (Admin ∷ []) on tt)

reported_on : (x : ExchangeParts) (place : ℕ) (old new : OrderParts) (kind : ReportKind)
    → IsReported AnyPx x place old new kind → ReportsOn x
    → ReportsOn (reported x place new kind).1
reported_on x place old new kind is on =
    let leg : new.leg ≡ old.leg = same_leg AnyPx (next_exec x.own) old new kind is.change in
    let all : accepted_by (reported x place new kind).1 ≡ accepted_by x =
    legs_kept x.orders place old new is.there leg in
    let known = contains_map (λ (o : OrderParts). o.leg) x.orders old (numbered_contains place x.orders old is.there) in
    subst (λ legs. AreOn legs (reported x place new kind).1.own) (sym all)
    (on-append (accepted_by x) x.own _ on
    (record { leg = old.leg; there = known; same = ap (λ (l : Leg). l.id) (sym leg) }, tt))

pub act_on : (a : Act) (x : ExchangeParts) → ReportsOn x → ReportsOn (act_of a x).1
act_on (act.Trade order shares px) x on =
    trade_is AnyPx x ReportsOn on (λ place old new kind is. reported_on x place old new kind is on) order shares px tt
act_on (act.CancelRest order) x on =
    cancel_rest_is AnyPx x ReportsOn on (λ place old new kind is. reported_on x place old new kind is on) order
act_on (act.Reject order) x on =
    reject_is AnyPx x ReportsOn on (λ place old new kind is. reported_on x place old new kind is on) order
act_on (act.Bust order which) x on =
    bust_is AnyPx x ReportsOn on (λ place old new kind is. reported_on x place old new kind is on) order which
act_on act.Test x on = test_is x ReportsOn on (λ left. on-append (accepted_by x) x.own (Admin ∷ []) on tt)

-- the leg of each report that was made
pub made_on : (legs : List Leg) (own : List SentRecord) (report : Report) → AreOn legs own → Contains (reports_in own) report
    → IsNumberOf legs report.id
made_on legs [] report on there = absurd (let h = there.1 in omega arith)
made_on legs (Admin ∷ own) report on there = made_on legs own report on there
made_on legs (Refused number ∷ own) report on there = made_on legs own report on there
made_on legs (Reported first view ∷ own) report on (zero, low, is) =
    subst (λ (r : Report). IsNumberOf legs r.id) is on.0
made_on legs (Reported first view ∷ own) report on (suc k, low, is) = made_on legs own report on.1 (k, omega arith, is)

-- Whatever comes, and whatever an exchange does by itself, it goes on from where it was.
use Rattle.std.proofs.Common.{◌≡◌, ◌==◌, ℕ, zero, suc, ◌≤◌, ◌<◌, Bool, true, false, List, [], ◌∷◌, ◌++◌, length, map, Option, Some, None, Ok, Err, refl, sym, ap, ◌∙◌, arith}
use Rattle.std.proofs.lemmas.List.{map-append, append-nil}
use Rattle.std.proofs.lemmas.Option.{same_Some}
use Rattle.leg.specs.Numbered.{numbered, with_numbered}
use Rattle.leg.specs.declared.leg.Leg.{Leg}
use Rattle.dialect.specs.declared.report.ReportKind.{ReportKind}
use Rattle.dialect.specs.declared.content.Content.{Content}
use Rattle.dialect.specs.declared.content.Content.TheVariants.{Session, Order}
use Rattle.fix_tags.specs.declared.session_body.SessionBody.TheVariants.{TestRequest, GapFill, Logout}
use Rattle.dialect.specs.declared.message.Message.{Message}
use Rattle.exchange_core.specs.Order.{OrderParts, new_order, view_of}
use Rattle.exchange_core.specs.declared.sent_record.SentRecord.{SentRecord}
use Rattle.exchange_core.specs.declared.sent_record.SentRecord.TheVariants.{Admin, Reported, Refused}
use Rattle.exchange_core.specs.declared.live_connection.LiveConnection.{LiveConnection}
use Rattle.exchange_core.specs.Exchange.{ExchangeParts, Answer, accepted_by, next_report, passed_by, with_connection, logon_answer, logon_taken, due_taken, asks, by_number, take, drop_connection}
use Rattle.exchange_core.specs.Acts.{reported, trade, cancel_rest, reject, bust, tested, test}
use Rattle.exchange_core.specs.Keeping.{IsExchangeLater}
use Rattle.exchange_core.proofs.Entries.{chosen}
use Rattle.exchange_core.proofs.Cases.{by_number_is, after_take_is}
use Rattle.exchange_core.proofs.ActsReport.{IsReported, same_leg, AnyPx, trade_is, cancel_rest_is, reject_is, bust_is, test_is}

-- where neither the orders nor the own numbers change
pub after_same : (x y : ExchangeParts) → y.config ≡ x.config → x.expected ≤ y.expected → x.last ≤ y.last → y.orders ≡ x.orders → y.own ≡ x.own → IsExchangeLater x y
after_same x y config expected last orders own = record {
  config = config;
  expected = expected;
  last = last;
  accepted = ([], rw orders (sym (append-nil (accepted_by x))));
  own = ([], rw own (sym (append-nil x.own)), omega arith);
}

-- where own numbers are used
pub after_used : (x y : ExchangeParts) (more : List SentRecord) → y.config ≡ x.config → x.expected ≤ y.expected → x.last ≤ y.last → accepted_by y ≡ accepted_by x → y.own ≡ x.own ++ more → length more ≤ 2 → IsExchangeLater x y
after_used x y more config expected last orders own few = record {
  config = config;
  expected = expected;
  last = last;
  accepted = ([], orders ∙ sym (append-nil (accepted_by x)));
  own = (more, own, few);
}

pub after-refl : (x : ExchangeParts) → IsExchangeLater x x
after-refl x = after_same x x refl (omega arith) (omega arith) refl refl

-- A message that comes.
pub due_after : (x : ExchangeParts) (content : Content) → IsExchangeLater x (due_taken x content).1
due_after x (Order (Ok leg)) = record {
  config = refl;
  expected = omega arith;
  last = omega arith;
  accepted = (leg ∷ [], map-append (λ (order : OrderParts). order.leg) x.orders (new_order leg ∷ []));
  own = (_, refl, omega arith);
}
due_after x (Order (Err fault)) = after_used x (due_taken x (Order (Err fault))).1 (Refused x.expected ∷ []) refl (omega arith) (omega arith) refl refl (omega arith)
due_after x (Session (GapFill new_number)) = after_same x (due_taken x (Session (GapFill new_number))).1 refl (omega arith) (omega arith) refl refl
due_after x (Session Logout) = after_used x (due_taken x (Session Logout)).1 (Admin ∷ []) refl (omega arith) (omega arith) refl refl (omega arith)
due_after x (Session (TestRequest id)) = after_used x (due_taken x (Session (TestRequest id))).1 (Admin ∷ []) refl (omega arith) (omega arith) refl refl (omega arith)
due_after x content = after_same x (due_taken x content).1 refl (omega arith) (omega arith) refl refl

pub asks_after : (x : ExchangeParts) (live : LiveConnection) → IsExchangeLater x (asks x live).1
asks_after x live = after_used x (asks x live).1 (Admin ∷ []) refl (omega arith) (omega arith) refl refl (omega arith)

pub by_number_after : (x : ExchangeParts) (live : LiveConnection) (number : ℕ) (content : Content) → IsExchangeLater x (by_number x live number content).1
by_number_after x live number content =
    by_number_is x live number content (λ (a : Answer). IsExchangeLater x a.1) (after-refl x) (λ due. due_after x content) (asks_after x live)

passed_by-le : (x : ExchangeParts) (number : ℕ) → x.expected ≤ passed_by x number
passed_by-le x number = chosen (λ e. x.expected ≤ e) (number == x.expected) (suc x.expected) x.expected (λ due. omega arith) (λ ahead. omega arith)

logon_after : (x : ExchangeParts) (connection number heart : ℕ) (next : Option ℕ) (b : Bool) → x.last < connection → IsExchangeLater x (logon_answer (with_connection x connection number) connection b heart next).1
logon_after x connection number heart (Some next) b newer = after_used x (logon_answer (with_connection x connection number) connection b heart (Some next)).1 (Admin ∷ []) refl (passed_by-le x number) (omega arith) refl refl (omega arith)
logon_after x connection number heart None true newer = after_used x (logon_answer (with_connection x connection number) connection true heart None).1 (Admin ∷ []) refl (passed_by-le x number) (omega arith) refl refl (omega arith)
logon_after x connection number heart None false newer = after_used x (logon_answer (with_connection x connection number) connection false heart None).1 (Admin ∷ Admin ∷ []) refl (passed_by-le x number) (omega arith) refl refl (omega arith)

-- whatever comes
pub take_after : (x : ExchangeParts) (connection : ℕ) (m : Message) → IsExchangeLater x (take x connection m).1
take_after x connection m =
    after_take_is x connection m (IsExchangeLater x) (after-refl x)
    (λ heart next room newer. logon_after x connection m.number heart next (m.number == x.expected) newer)
    (λ room due. due_after x m.content)
    (λ live room is. asks_after x live)

-- a Logon that is taken
pub logon_taken_after : (x : ExchangeParts) (connection number heart : ℕ) (next : Option ℕ) → x.last < connection → IsExchangeLater x (logon_taken x connection number heart next).1
logon_taken_after x connection number heart next newer = logon_after x connection number heart next (number == x.expected) newer

pub drop_after : (x : ExchangeParts) → IsExchangeLater x (drop_connection x)
drop_after x = after_same x (drop_connection x) refl (omega arith) (omega arith) refl refl

-- What it does by itself.

-- the legs stay where an order is replaced by one of the same leg
pub legs_kept : (orders : List OrderParts) (place : ℕ) (old new : OrderParts) → numbered place orders ≡ Some old → new.leg ≡ old.leg → map (λ (o : OrderParts). o.leg) (with_numbered place new orders) ≡ map (λ (o : OrderParts). o.leg) orders
legs_kept orders zero old new there same = refl
legs_kept [] (suc i) old new there same = cc
legs_kept (o ∷ orders) (suc zero) old new there same =
    let is : o ≡ old = same_Some o old there in
    let leg : new.leg ≡ o.leg = same ∙ ap (λ (o : OrderParts). o.leg) (sym is) in
    ap (λ (leg : Leg). leg ∷ map (λ (o : OrderParts). o.leg) orders) leg
legs_kept (o ∷ orders) (suc (suc i)) old new there same = ap (λ (legs : List Leg). o.leg ∷ legs) (legs_kept orders (suc i) old new there same)

pub reported_after : (x : ExchangeParts) (place : ℕ) (old new : OrderParts) (kind : ReportKind) → numbered place x.orders ≡ Some old → new.leg ≡ old.leg → IsExchangeLater x (reported x place new kind).1
reported_after x place old new kind there same =
    after_used x (reported x place new kind).1 (Reported (next_report x new kind) (view_of place new) ∷ []) refl (omega arith) (omega arith) (legs_kept x.orders place old new there same) refl (omega arith)

change_after : (x : ExchangeParts) (place : ℕ) (old new : OrderParts) (kind : ReportKind) → IsReported AnyPx x place old new kind → IsExchangeLater x (reported x place new kind).1
change_after x place old new kind is = reported_after x place old new kind is.there (same_leg AnyPx _ old new kind is.change)

pub trade_after : (x : ExchangeParts) (place shares : ℕ) (px : List ℕ) → IsExchangeLater x (trade x place shares px).1
trade_after x place shares px = trade_is AnyPx x (IsExchangeLater x) (after-refl x) (change_after x) place shares px tt

pub cancel_rest_after : (x : ExchangeParts) (place : ℕ) → IsExchangeLater x (cancel_rest x place).1
cancel_rest_after x = cancel_rest_is AnyPx x (IsExchangeLater x) (after-refl x) (change_after x)

pub reject_after : (x : ExchangeParts) (place : ℕ) → IsExchangeLater x (reject x place).1
reject_after x = reject_is AnyPx x (IsExchangeLater x) (after-refl x) (change_after x)

pub bust_after : (x : ExchangeParts) (place which : ℕ) → IsExchangeLater x (bust x place which).1
bust_after x = bust_is AnyPx x (IsExchangeLater x) (after-refl x) (change_after x)

-- a TestRequest
pub tested_after : (x : ExchangeParts) → IsExchangeLater x (tested x).1
tested_after x = after_used x (tested x).1 (Admin ∷ []) refl (omega arith) (omega arith) refl refl (omega arith)

pub test_after : (x : ExchangeParts) → IsExchangeLater x (test x).1
test_after x = test_is x (IsExchangeLater x) (after-refl x) (λ left. tested_after x)

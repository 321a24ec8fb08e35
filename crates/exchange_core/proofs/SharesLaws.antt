-- Each order adds up, whatever comes and whatever is done.
use Rattle.std.proofs.Common.{◌≡◌, ◌==◌, ℕ, zero, suc, ◌+◌, ◌≤◌, Bool, true, false, List, [], ◌∷◌, ◌++◌, Option, Some, None, Ok, Err, refl, sym, ap, subst, ◌∙◌, arith, sum_by, get_or}
use Rattle.std.specs.List.{slice_set}
use Rattle.std.proofs.lemmas.List.Sums.{sum_by-append, sum_by-set}
use Rattle.std.proofs.lemmas.Option.{slice_get_within, get_or_from_slice_get}
use Rattle.leg.specs.Numbered.{numbered}
use Rattle.leg.specs.declared.leg.Leg.{Leg}
use Rattle.dialect.specs.declared.report.ReportKind.{ReportKind}
use Rattle.dialect.specs.declared.content.Content.{Content}
use Rattle.dialect.specs.declared.content.Content.TheVariants.{Session, Order}
use Rattle.fix_tags.specs.declared.session_body.SessionBody.TheVariants.{TestRequest, GapFill, Logout}
use Rattle.dialect.specs.declared.message.Message.{Message}
use Rattle.exchange_core.specs.declared.ending.Ending.{Ending}
use Rattle.exchange_core.specs.Order.{OrderParts, TradeParts, new_order, ended_by}
use Rattle.exchange_core.specs.Exchange.{ExchangeParts, logon_answer, with_connection, due_taken, take}
use Rattle.exchange_core.specs.Acts.{reported, trade, cancel_rest, reject, bust, test}
use Rattle.exchange_core.specs.Shares.{live_shares, busted_shares, SharesAddUp, OrdersAddUp}
use Rattle.exchange_core.proofs.Entries.{all_with, all_more, all_at}
use Rattle.exchange_core.proofs.Cases.{after_take_is}
use Rattle.exchange_core.proofs.ActsReport.{after_trade, after_bust, IsChange, by_trade, by_end, by_bust, IsReported, AnyPx, trade_is, cancel_rest_is, reject_is, bust_is, test_is}

pub new_adds : (leg : Leg) → SharesAddUp (new_order leg)
new_adds leg = record { parts = omega arith; filled = refl; busted = refl }

traded_adds : (order : OrderParts) (shares exec : ℕ) → SharesAddUp order → shares ≤ order.split.still_open → SharesAddUp (after_trade order shares exec)
traded_adds order shares exec adds within =
    let trade : TradeParts = record { shares = shares; exec = exec; is_busted = false } in
    let live : sum_by live_shares (order.trades ++ trade ∷ []) ≡ sum_by live_shares order.trades + shares = sum_by-append live_shares order.trades (trade ∷ []) ∙ omega arith in
    let busted : sum_by busted_shares (order.trades ++ trade ∷ []) ≡ sum_by busted_shares order.trades + 0 = sum_by-append busted_shares order.trades (trade ∷ []) in
    record {
      parts = omega (arith, adds.parts);
      filled = omega (arith, live, adds.filled);
      busted = omega (arith, busted, adds.busted);
    }

ended_adds : (ending : Ending) (order : OrderParts) → SharesAddUp order → SharesAddUp (ended_by ending order)
ended_adds ending order adds = record { parts = omega (arith, adds.parts); filled = adds.filled; busted = adds.busted }

-- a trade that fills shares
live_is : (trade : TradeParts) → trade.is_busted ≡ false → live_shares trade ≡ trade.shares
live_is trade live = rw live refl

none_busted : (trade : TradeParts) → trade.is_busted ≡ false → busted_shares trade ≡ 0
none_busted trade live = rw live refl

busted_adds : (order : OrderParts) (which : ℕ) (trade : TradeParts) → SharesAddUp order → numbered which order.trades ≡ Some trade → trade.is_busted ≡ false → SharesAddUp (after_bust order which trade)
busted_adds order zero trade adds there live = cc
busted_adds order (suc i) trade adds there live =
    let undone : TradeParts = record trade { is_busted = true } in
    let inside = slice_get_within order.trades i trade there in
    let is : get_or order.trades i trade ≡ trade = get_or_from_slice_get order.trades i trade trade there in
    let filled : sum_by live_shares (slice_set order.trades i undone) + trade.shares ≡ sum_by live_shares order.trades = subst (λ t. sum_by live_shares (slice_set order.trades i undone) + t ≡ sum_by live_shares order.trades) (ap live_shares is ∙ live_is trade live) (sum_by-set live_shares order.trades i undone trade inside ∙ omega arith) in
    let busted : sum_by busted_shares (slice_set order.trades i undone) + 0 ≡ sum_by busted_shares order.trades + trade.shares = subst (λ t. sum_by busted_shares (slice_set order.trades i undone) + t ≡ sum_by busted_shares order.trades + trade.shares) (ap busted_shares is ∙ none_busted trade live) (sum_by-set busted_shares order.trades i undone trade inside) in
    record {
      parts = omega (arith, adds.parts, filled, adds.filled);
      filled = omega (arith, filled, adds.filled);
      busted = omega (arith, busted, adds.busted);
    }

due_adds : (x : ExchangeParts) (content : Content) → OrdersAddUp x → OrdersAddUp (due_taken x content).1
due_adds x (Order (Ok leg)) all = all_more SharesAddUp x.orders (new_order leg) all (new_adds leg)
due_adds x (Order (Err fault)) all = all
due_adds x (Session (GapFill new_number)) all = all
due_adds x (Session Logout) all = all
due_adds x (Session (TestRequest id)) all = all
due_adds x content all = all

logon_adds : (x : ExchangeParts) (connection number heart : ℕ) (next : Option ℕ) (b : Bool) → OrdersAddUp x → OrdersAddUp (logon_answer (with_connection x connection number) connection b heart next).1
logon_adds x connection number heart (Some next) b all = all
logon_adds x connection number heart None true all = all
logon_adds x connection number heart None false all = all

-- whatever comes
pub take_adds : (x : ExchangeParts) (connection : ℕ) (m : Message) → OrdersAddUp x → OrdersAddUp (take x connection m).1
take_adds x connection m all =
    after_take_is x connection m OrdersAddUp all
    (λ heart next room newer. logon_adds x connection m.number heart next (m.number == x.expected) all)
    (λ room due. due_adds x m.content all)
    (λ live room is. all)

-- an order that changes adds up
pub change_adds : (IsPx : List ℕ → Type 0) (exec : ℕ) (old new : OrderParts) (kind : ReportKind) → IsChange IsPx exec old new kind → SharesAddUp old → SharesAddUp new
change_adds IsPx exec old new kind (by_trade shares px is low within after says) adds = subst SharesAddUp (sym after) (traded_adds old shares exec adds within)
change_adds IsPx exec old new kind (by_end ending after says) adds = subst SharesAddUp (sym after) (ended_adds ending old adds)
change_adds IsPx exec old new kind (by_bust which trade there live within after says) adds = subst SharesAddUp (sym after) (busted_adds old which trade adds there live)

pub reported_adds : (IsPx : List ℕ → Type 0) (x : ExchangeParts) → OrdersAddUp x → (place : ℕ) (old new : OrderParts) (kind : ReportKind) → IsReported IsPx x place old new kind → OrdersAddUp (reported x place new kind).1
reported_adds IsPx x all place old new kind is =
    all_with SharesAddUp x.orders place new all (change_adds IsPx _ old new kind is.change (all_at SharesAddUp x.orders place old all is.there))

pub trade_adds : (x : ExchangeParts) (place shares : ℕ) (px : List ℕ) → OrdersAddUp x → OrdersAddUp (trade x place shares px).1
trade_adds x place shares px all = trade_is AnyPx x OrdersAddUp all (reported_adds AnyPx x all) place shares px tt

pub cancel_rest_adds : (x : ExchangeParts) (place : ℕ) → OrdersAddUp x → OrdersAddUp (cancel_rest x place).1
cancel_rest_adds x place all = cancel_rest_is AnyPx x OrdersAddUp all (reported_adds AnyPx x all) place

pub reject_adds : (x : ExchangeParts) (place : ℕ) → OrdersAddUp x → OrdersAddUp (reject x place).1
reject_adds x place all = reject_is AnyPx x OrdersAddUp all (reported_adds AnyPx x all) place

pub bust_adds : (x : ExchangeParts) (place which : ℕ) → OrdersAddUp x → OrdersAddUp (bust x place which).1
bust_adds x place which all = bust_is AnyPx x OrdersAddUp all (reported_adds AnyPx x all) place which

pub test_adds : (x : ExchangeParts) → OrdersAddUp x → OrdersAddUp (test x).1
test_adds x all = test_is x OrdersAddUp all (λ left. all)

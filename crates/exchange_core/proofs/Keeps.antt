-- An exchange keeps its orders and its own numbers in range, whatever comes and whatever it does by itself.
use Rattle.std.proofs.Common.{◌≡◌, ◌==◌, ◌⊎◌, inl, inr, ℕ, zero, suc, ◌+◌, ◌≤◌, Bool, true, false, List, [], ◌∷◌, ◌++◌, length, Option, Some, None, Ok, Err, refl, sym, subst, arith, length-append}
use Rattle.std.specs.List.{AllByRecursion}
use Rattle.std.proofs.lemmas.Bool.Decides.{nat_tests}
use Rattle.std.proofs.lemmas.Option.{slice_get_within}
use Rattle.leg.specs.Leg.{IsLeg}
use Rattle.leg.specs.Numbered.{numbered, with_numbered}
use Rattle.leg.specs.declared.leg.Leg.{Leg}
use Rattle.fix_tags.specs.Config.{IsConfig}
use Rattle.dialect.specs.FreeText.{IsFreeText}
use Rattle.dialect.specs.declared.report.ReportKind.{ReportKind}
use Rattle.dialect.specs.declared.report.ReportKind.TheVariants.{New, Canceled, Rejected}
use Rattle.dialect.specs.declared.content.Content.{Content}
use Rattle.dialect.specs.declared.content.Content.TheVariants.{Session, Order}
use Rattle.fix_tags.specs.declared.session_body.SessionBody.TheVariants.{TestRequest, GapFill, Logout}
use Rattle.dialect.specs.declared.message.Message.{Message}
use Rattle.dialect.specs.Report.{IsReportKind}
use Rattle.dialect.specs.Writable.{IsReportBeside}
use Rattle.exchange_core.specs.Order.{OrderParts, new_order, view_of}
use Rattle.exchange_core.specs.declared.sent_record.SentRecord.{SentRecord}
use Rattle.exchange_core.specs.declared.sent_record.SentRecord.TheVariants.{Admin, Reported, Refused}
use Rattle.exchange_core.specs.SentRecord.{report_count, next_exec, next_own_number, has_numbers}
use Rattle.exchange_core.specs.Exchange.{ExchangeParts, next_report, logon_answer, with_connection, order_refused, due_taken, asks, take}
use Rattle.exchange_core.specs.Acts.{reported, trade, tested}
use Rattle.exchange_core.specs.Keeping.{IsExpectable}
use Rattle.exchange_core.specs.Sound.{IsReadContent, IsTradeSound, IsOrderSound, IsOwnSound}
use Rattle.exchange_core.proofs.Entries.{all_with, all_both, all_more, all_at}
use Rattle.exchange_core.proofs.Ids.{exec_id_is, order_id_is}
use Rattle.exchange_core.proofs.Cases.{HasRoom, after_take_is}
use Rattle.exchange_core.proofs.ActsReport.{IsChange, by_trade, by_end, by_bust, IsReported, same_leg}
use Rattle.exchange_core.proofs.SharesLaws.{new_adds, change_adds}

-- the orders and the own numbers of a sound exchange
pub record HasSoundParts (x : ExchangeParts) : Type 0 where
  pub orders : AllByRecursion IsOrderSound x.orders
  pub few : length x.orders ≤ length x.own
  pub own : AllByRecursion IsOwnSound x.own

-- the next own number is one that a message may have
abbrev pub HasNumber : ExchangeParts → Type 0
HasNumber x = next_own_number x.own ≤ 999_999_998

pub room_for_one : (x : ExchangeParts) → IsConfig x.config → has_numbers 1 x.config x.own ≡ true → HasNumber x
room_for_one x config left =
    let fits : next_own_number x.own + 1 ≤ x.config.max_number = grind (arith, nat_tests, left) in
    let limit = config.max_number in
    omega (arith, fits, limit)

pub room_for_two : (x : ExchangeParts) → IsConfig x.config → HasRoom x → suc (next_own_number x.own) ≤ 999_999_998
room_for_two x config room = let limit = config.max_number in omega (arith, room, limit)

pub reports_within : (own : List SentRecord) → report_count own ≤ length own
reports_within [] = omega arith
reports_within (Admin ∷ own) = let less = reports_within own in omega (arith, less)
reports_within (Reported report view ∷ own) = let less = reports_within own in omega (arith, less)
reports_within (Refused number ∷ own) = let less = reports_within own in omega (arith, less)

pub next_exec_small : (x : ExchangeParts) → HasNumber x → next_exec x.own ≤ 999_999_999
next_exec_small x number = let less = reports_within x.own in omega (arith, number, less)

-- a report on a sound order, and the order as it is then
pub report_sound : (x : ExchangeParts) (place : ℕ) (order : OrderParts) (kind : ReportKind) → HasNumber x → place ≤ 999_999_999 → IsOrderSound order → IsReportKind kind → IsReportBeside (next_report x order kind) (view_of place order)
report_sound x place order kind number small sound kind_is =
    let parts = sound.adds.parts in
    record {
      report_in_range = record { id = sound.leg.id; exec = exec_id_is (next_exec x.own) (next_exec_small x number); kind = kind_is };
      view_in_range = record { leg = sound.leg; order_id = order_id_is place small; within = omega (arith, parts) };
      own_leg = refl;
    }

new_sound : (leg : Leg) → IsLeg leg → IsOrderSound (new_order leg)
new_sound leg is = record { leg = is; adds = new_adds leg; trades = tt }

-- an order that changes stays sound, and what is said of it is in range
trades_after : (exec : ℕ) (old new : OrderParts) (kind : ReportKind) → exec ≤ 999_999_999 → IsChange (IsFreeText 20) exec old new kind → AllByRecursion IsTradeSound old.trades → AllByRecursion IsTradeSound new.trades
trades_after exec old new kind small (by_trade shares px is low within after says) all =
    subst (λ (o : OrderParts). AllByRecursion IsTradeSound o.trades) (sym after)
    (all_more IsTradeSound old.trades (record { shares = shares; exec = exec; is_busted = false }) all small)
trades_after exec old new kind small (by_end ending after says) all = subst (λ (o : OrderParts). AllByRecursion IsTradeSound o.trades) (sym after) all
trades_after exec old new kind small (by_bust which trade there live within after says) all =
    subst (λ (o : OrderParts). AllByRecursion IsTradeSound o.trades) (sym after)
    (all_with IsTradeSound old.trades which (record trade { is_busted = true }) all (all_at IsTradeSound old.trades which trade all there))

change_sound : (exec : ℕ) (old new : OrderParts) (kind : ReportKind) → exec ≤ 999_999_999 → IsChange (IsFreeText 20) exec old new kind → IsOrderSound old → IsOrderSound new
change_sound exec old new kind small change sound = record {
  leg = subst IsLeg (sym (same_leg (IsFreeText 20) exec old new kind change)) sound.leg;
  adds = change_adds (IsFreeText 20) exec old new kind change sound.adds;
  trades = trades_after exec old new kind small change sound.trades;
}

ended_kind : (kind : ReportKind) → (kind ≡ Canceled) ⊎ (kind ≡ Rejected) → IsReportKind kind
ended_kind kind (inl is) = subst IsReportKind (sym is) tt
ended_kind kind (inr is) = subst IsReportKind (sym is) tt

kind_sound : (exec : ℕ) (old new : OrderParts) (kind : ReportKind) → IsChange (IsFreeText 20) exec old new kind → IsOrderSound old → IsReportKind kind
kind_sound exec old new kind (by_trade shares px is low within after says) sound =
    let parts = sound.adds.parts in
    let most = sound.leg.terms.shares.high in
    subst IsReportKind (sym says) (record { shares = record { low = low; high = omega (arith, parts, most, within) }; px = is })
kind_sound exec old new kind (by_end ending after says) sound = ended_kind kind says
kind_sound exec old new kind (by_bust which trade there live within after says) sound =
    subst IsReportKind (sym says) (exec_id_is trade.exec (all_at IsTradeSound old.trades which trade sound.trades there))

-- a place where an order is
pub place_within : (orders : List OrderParts) (place : ℕ) (order : OrderParts) → numbered place orders ≡ Some order → place ≤ length orders
place_within orders zero order there = omega arith
place_within orders (suc before) order there = let inside = slice_get_within orders before order there in omega (arith, inside)

length_with : (orders : List OrderParts) (place : ℕ) (order : OrderParts) → length (with_numbered place order orders) ≡ length orders
length_with orders zero order = refl
length_with [] (suc i) order = refl
length_with (o ∷ orders) (suc zero) order = refl
length_with (o ∷ orders) (suc (suc i)) order = let same = length_with orders (suc i) order in omega (arith, same)

-- what is said of the order that changed
pub change_reported : (x : ExchangeParts) → HasSoundParts x → IsConfig x.config → (place : ℕ) (old new : OrderParts) (kind : ReportKind) → IsReported (IsFreeText 20) x place old new kind → IsReportBeside (next_report x new kind) (view_of place new)
change_reported x sound config place old new kind is =
    let number : HasNumber x = room_for_one x config is.left in
    let before : IsOrderSound old = all_at IsOrderSound x.orders place old sound.orders is.there in
    let inside = place_within x.orders place old is.there in
    let few = sound.few in
    report_sound x place new kind number (omega (arith, inside, few, number))
    (change_sound (next_exec x.own) old new kind (next_exec_small x number) is.change before)
    (kind_sound (next_exec x.own) old new kind is.change before)

one_longer : (own : List SentRecord) (entry : SentRecord) → length (own ++ entry ∷ []) ≡ suc (length own)
one_longer own entry = omega (arith, length-append own (entry ∷ []))

pub reported_keeps_parts : (x : ExchangeParts) → HasSoundParts x → IsConfig x.config → (place : ℕ) (old new : OrderParts) (kind : ReportKind) → IsReported (IsFreeText 20) x place old new kind → HasSoundParts (reported x place new kind).1
reported_keeps_parts x sound config place old new kind is =
    let number : HasNumber x = room_for_one x config is.left in
    let before : IsOrderSound old = all_at IsOrderSound x.orders place old sound.orders is.there in
    let entry : SentRecord = Reported (next_report x new kind) (view_of place new) in
    let few = sound.few in
    record {
      orders = all_with IsOrderSound x.orders place new sound.orders (change_sound (next_exec x.own) old new kind (next_exec_small x number) is.change before);
      few = omega (arith, few, length_with x.orders place new, one_longer x.own entry);
      own = all_more IsOwnSound x.own entry sound.own (change_reported x sound config place old new kind is);
    }

-- where own numbers are used for the session's messages
admin_parts : (x : ExchangeParts) (y : ExchangeParts) → HasSoundParts x → y.orders ≡ x.orders → y.own ≡ x.own ++ Admin ∷ [] → HasSoundParts y
admin_parts x y sound orders own =
    let few = sound.few in
    record {
      orders = subst (AllByRecursion IsOrderSound) (sym orders) sound.orders;
      few = rw (orders, own) (omega (arith, few, one_longer x.own Admin));
      own = subst (AllByRecursion IsOwnSound) (sym own) (all_more IsOwnSound x.own Admin sound.own tt);
    }

two_admin_parts : (x : ExchangeParts) (y : ExchangeParts) → HasSoundParts x → y.orders ≡ x.orders → y.own ≡ x.own ++ Admin ∷ Admin ∷ [] → HasSoundParts y
two_admin_parts x y sound orders own =
    let few = sound.few in
    record {
      orders = subst (AllByRecursion IsOrderSound) (sym orders) sound.orders;
      few = rw (orders, own) (omega (arith, few, length-append x.own (Admin ∷ Admin ∷ [])));
      own = subst (AllByRecursion IsOwnSound) (sym own) (all_both IsOwnSound x.own (Admin ∷ Admin ∷ []) sound.own (tt, (tt, tt)));
    }

same_parts : (x y : ExchangeParts) → HasSoundParts x → y.orders ≡ x.orders → y.own ≡ x.own → HasSoundParts y
same_parts x y sound orders own =
    let few = sound.few in
    record {
      orders = subst (AllByRecursion IsOrderSound) (sym orders) sound.orders;
      few = rw (orders, own) few;
      own = subst (AllByRecursion IsOwnSound) (sym own) sound.own;
    }

-- an order that is taken is reported
pub new_reported : (x : ExchangeParts) (leg : Leg) → HasSoundParts x → HasNumber x → IsLeg leg → IsReportBeside (next_report x (new_order leg) New) (view_of (suc (length x.orders)) (new_order leg))
new_reported x leg sound number is =
    let few = sound.few in
    report_sound x (suc (length x.orders)) (new_order leg) New number (omega (arith, few, number)) (new_sound leg is) tt

ordered_parts : (x : ExchangeParts) (leg : Leg) → HasSoundParts x → HasNumber x → IsLeg leg → HasSoundParts (due_taken x (Order (Ok leg))).1
ordered_parts x leg sound number is =
    let order : OrderParts = new_order leg in
    let entry : SentRecord = Reported (next_report x order New) (view_of (suc (length x.orders)) order) in
    let few = sound.few in
    record {
      orders = all_more IsOrderSound x.orders order sound.orders (new_sound leg is);
      few = omega (arith, few, one_longer x.own entry, length-append x.orders (order ∷ []));
      own = all_more IsOwnSound x.own entry sound.own (new_reported x leg sound number is);
    }

refused_parts : (x : ExchangeParts) → HasSoundParts x → IsExpectable x → HasSoundParts (order_refused x).1
refused_parts x sound expectable =
    let few = sound.few in
    record {
      orders = sound.orders;
      few = omega (arith, few, one_longer x.own (Refused x.expected));
      own = all_more IsOwnSound x.own (Refused x.expected) sound.own expectable.to;
    }

due_parts : (x : ExchangeParts) (content : Content) → HasSoundParts x → HasNumber x → IsExpectable x → IsReadContent content → HasSoundParts (due_taken x content).1
due_parts x (Order (Ok leg)) sound number expectable read = ordered_parts x leg sound number read
due_parts x (Order (Err fault)) sound number expectable read = refused_parts x sound expectable
due_parts x (Session (GapFill new_number)) sound number expectable read = same_parts x (due_taken x (Session (GapFill new_number))).1 sound refl refl
due_parts x (Session Logout) sound number expectable read = admin_parts x (due_taken x (Session Logout)).1 sound refl refl
due_parts x (Session (TestRequest id)) sound number expectable read = admin_parts x (due_taken x (Session (TestRequest id))).1 sound refl refl
due_parts x content sound number expectable read = same_parts x (due_taken x content).1 sound refl refl

logon_parts : (x : ExchangeParts) (connection number heart : ℕ) (next : Option ℕ) (b : Bool) → HasSoundParts x → HasSoundParts (logon_answer (with_connection x connection number) connection b heart next).1
logon_parts x connection number heart (Some next) b sound = admin_parts x (logon_answer (with_connection x connection number) connection b heart (Some next)).1 sound refl refl
logon_parts x connection number heart None true sound = admin_parts x (logon_answer (with_connection x connection number) connection true heart None).1 sound refl refl
logon_parts x connection number heart None false sound = two_admin_parts x (logon_answer (with_connection x connection number) connection false heart None).1 sound refl refl

pub take_parts : (x : ExchangeParts) (connection : ℕ) (m : Message) → HasSoundParts x → IsConfig x.config → IsExpectable x → IsReadContent m.content → HasSoundParts (take x connection m).1
take_parts x connection m sound config expectable read =
    after_take_is x connection m HasSoundParts sound
    (λ heart next room newer. logon_parts x connection m.number heart next (m.number == x.expected) sound)
    (λ room due. due_parts x m.content sound (let two = room_for_two x config room in omega (arith, two)) expectable read)
    (λ live room is. admin_parts x (asks x live).1 sound refl refl)

pub tested_parts : (x : ExchangeParts) → HasSoundParts x → HasSoundParts (tested x).1
tested_parts x sound = admin_parts x (tested x).1 sound refl refl

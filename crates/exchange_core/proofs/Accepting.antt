-- An order that is accepted, and what is sent again.
use Rattle.std.proofs.Common.{◌≡◌, ℕ, suc, ◌-◌, ◌≤◌, true, false, List, [], ◌∷◌, ◌++◌, map, sym, ap, drop, take, length, All, None, refl, subst, arith, length-append, length-drop}
use Rattle.std.proofs.lemmas.List.{take_all}
use Rattle.dialect.specs.Writable.{IsWritable}
use Rattle.fix_tags.specs.Config.{ConfigParts}
use Rattle.fix_tags.specs.Range.{range_end, is_range}
use Rattle.leg.specs.declared.leg.Leg.{Leg}
use Rattle.dialect.specs.OrderView.{OrderViewParts}
use Rattle.dialect.specs.declared.report.Report.{Report}
use Rattle.dialect.specs.declared.report.ReportKind.TheVariants.{New}
use Rattle.exchange_core.specs.declared.sent_record.SentRecord.{SentRecord}
use Rattle.exchange_core.specs.declared.sent_record.SentRecord.TheVariants.{Reported}
use Rattle.exchange_core.specs.Order.{OrderParts, new_order, view_of}
use Rattle.exchange_core.specs.SentRecord.{next_exec, next_own_number, execution_report, resent, resent_answer}
use Rattle.exchange_core.specs.Exchange.{ExchangeParts, next_report, next_execution_report, order_taken}
use Rattle.exchange_core.specs.Sound.{IsSound}
use Rattle.exchange_core.proofs.Keeps.{reports_within}

-- the count of the next report of an exchange that stays sound
pub accepted_exec : (x : ExchangeParts) (leg : Leg) → IsSound (order_taken x leg).1 → next_exec x.own ≤ 999999999
accepted_exec x leg sound =
    let order : OrderParts = new_order leg in
    let entry : SentRecord = Reported (next_report x order New) (view_of (suc (length x.orders)) order) in
    let numbers = sound.numbered in
    let limit = sound.config.max_number in
    omega (arith, numbers, limit, length-append x.own (entry ∷ []), reports_within x.own)

-- what is sent again for a range of numbers that were used
pub resent_range : (config : ConfigParts) (own : List SentRecord) (begin last : ℕ) → is_range (length own) begin last ≡ true → resent_answer config own begin last ≡ resent config None begin (drop (begin - 1) (take (range_end (length own) last) own))
resent_range config own begin last is = rw is refl

-- what is cut out of the own numbers for it can be written
pub range_writable : (config : ConfigParts) (own : List SentRecord) (begin last end : ℕ) → is_range (length own) begin last ≡ true → end ≡ range_end (length own) last → All IsWritable (resent_answer config own begin last) → All IsWritable (resent config None begin (take (length (take end own) - (begin - 1)) (drop (begin - 1) (take end own))))
range_writable config own begin last end is end_is all =
    let cut : List SentRecord = take end own in
    let whole : take (length cut - (begin - 1)) (drop (begin - 1) cut) ≡ drop (begin - 1) cut =
    take_all (length cut - (begin - 1)) (drop (begin - 1) cut) (omega (arith, length-drop (begin - 1) cut)) in
    subst (λ l. All IsWritable (resent config None begin l)) (sym whole)
    (subst (λ e. All IsWritable (resent config None begin (drop (begin - 1) (take e own)))) (sym end_is)
    (subst (λ l. All IsWritable l) (resent_range config own begin last is) all))

-- the report of an order that is accepted
pub accepted_out : (x : ExchangeParts) (leg : Leg) (number place : ℕ) (report : Report) (order : OrderParts) (view : OrderViewParts) → number ≡ next_own_number x.own → place ≡ suc (length x.orders) → report ≡ next_report x (new_order leg) New → order ≡ new_order leg → view ≡ view_of place order → execution_report x.config number false report view ≡ next_execution_report x (suc (length x.orders)) (new_order leg) New
accepted_out x leg number place report order view number_is place_is report_is order_is view_is = rw (number_is, report_is, view_is, place_is, order_is) refl

-- the exchange that accepted an order
pub seen_accepted : (x : ExchangeParts) (leg : Leg) (expected : ℕ) (orders : List OrderParts) (own : List SentRecord) → expected ≡ suc x.expected → orders ≡ x.orders ++ new_order leg ∷ [] → own ≡ x.own ++ Reported (next_report x (new_order leg) New) (view_of (suc (length x.orders)) (new_order leg)) ∷ [] → (let y : ExchangeParts = record x { expected = expected; orders = orders; own = own } in y) ≡ (order_taken x leg).1
seen_accepted x leg expected orders own expected_is orders_is own_is = rw (expected_is, orders_is, own_is) refl

-- its legs
pub legs_more : (orders : List OrderParts) (order : OrderParts) → map (λ o. o.leg) (orders ++ order ∷ []) ≡ map (λ o. o.leg) orders ++ order.leg ∷ []
legs_more [] order = refl
legs_more (first ∷ orders) order = ap (λ l. first.leg ∷ l) (legs_more orders order)

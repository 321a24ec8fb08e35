use Rattle.std.proofs.Common.{◌≡◌, suc, ◌+◌, List, ◌∷◌, ◌++◌, [], length, map, sym, ap, ◌∙◌, subst, arith}
use Rattle.dialect.specs.declared.outgoing.Outgoing.{Outgoing}
use Rattle.dialect.specs.declared.report.Report.{Report}
use Rattle.dialect.specs.declared.report.ReportKind.TheVariants.{New}
use Rattle.exchange_core.specs.declared.sent_record.SentRecord.TheVariants.{Reported}
use Rattle.exchange_core.specs.Exchange.{ExchangeParts, next_report, next_execution_report, order_taken}
use Rattle.exchange_core.specs.Frames.{Writes}
use Rattle.exchange_core.specs.Kept.{exchange_seen, reports_of}
use Rattle.exchange_core.specs.Order.{OrderParts, new_order, view_of}
use Rattle.exchange_core.specs.SentRecord.{next_exec, exec_id, next_own_number}
use Rattle.exchange_core.specs.Sound.{IsSound}
use Rattle.exchange_core.proofs.Accepting.{accepted_exec, accepted_out, seen_accepted, legs_more}
use Rattle.exchange_core.proofs.Reporting.{reports_more}
use Rattle.exchange_core.proofs.exchange.Exchange.accept.Goals as goal

pub id_of_report-requires : goal.id_of_report-requires
id_of_report-requires g c = omega (arith, c.next_count.ensures, accepted_exec c.args.self.now c.args.leg c.requires.sound)

pub returns-clause-written : goal.returns-clause-written
returns-clause-written g c =
    let x : ExchangeParts = exchange_seen c.self.inside in
    let leg = c.args.leg in
    let number : c.len-2.result + 1 ≡ next_own_number x.own = omega (arith, c.len-2.ensures, c.self.inside.own.ok.0) in
    let place : c.len.result + 1 ≡ suc (length x.orders) = omega (arith, c.len.ensures, c.self.inside.orders.ok.0) in
    let count : c.next_count.result ≡ next_exec x.own =
    c.next_count.ensures ∙ ap (λ (s : ExchangeParts). next_exec s.own) (sym c.self.view_is) in
    let exec : c.id_of_report.result ≡ exec_id (next_exec x.own) = c.id_of_report.ensures ∙ ap exec_id count in
    let report_is : (let r : Report = record { id = leg.id; exec = c.id_of_report.result; kind = New } in r) ≡ next_report x (new_order leg) New =
    λ k. record { id = leg.id; exec = exec k; kind = New } in
    let out = c.report_to_peer-outgoing.ensures
    ∙ accepted_out x leg (c.len-2.result + 1) (c.len.result + 1) _ c.new-order.result c.view-view.result number place report_is c.new-order.ensures c.view-view.ensures
    ∙ ap (λ (s : ExchangeParts). next_execution_report s (suc (length s.orders)) (new_order leg) New) c.self.view_is in
    subst (λ (o : Outgoing). Writes (g.D.Dialect.wording c.args.dialect.now).encoding c.args.stamp.now (o ∷ []) c.args.frames.now.items c.write.new.frames.items) out
    c.in_ok-write.ensures

pub invariant_of-self-2 : goal.invariant_of-self-2
invariant_of-self-2 g c =
    let x : ExchangeParts = exchange_seen c.self.inside in
    let leg = c.args.leg in
    let place : c.len.result + 1 ≡ suc (length x.orders) = omega (arith, c.len.ensures, c.self.inside.orders.ok.0) in
    let count : c.next_count.result ≡ next_exec x.own =
    c.next_count.ensures ∙ ap (λ (s : ExchangeParts). next_exec s.own) (sym c.self.view_is) in
    let exec : c.id_of_report.result ≡ exec_id (next_exec x.own) = c.id_of_report.ensures ∙ ap exec_id count in
    let report : Report = record { id = leg.id; exec = c.id_of_report.result; kind = New } in
    let report_is : report ≡ next_report x (new_order leg) New =
    λ k. record { id = leg.id; exec = exec k; kind = New } in
    let view_is : c.view-view.result ≡ view_of (suc (length x.orders)) (new_order leg) =
    c.view-view.ensures ∙ (ap (λ p. view_of p c.new-order.result) place ∙ ap (view_of (suc (length x.orders))) c.new-order.ensures) in
    let orders : c.push_reserved-2.new.self.items ≡ x.orders ++ new_order leg ∷ [] =
    c.push_reserved-2.ensures.items
    ∙ (ap (λ l. l ++ c.new-order.result ∷ []) c.in_ok-reserve.ensures.items
    ∙ ap (λ o. x.orders ++ o ∷ []) c.new-order.ensures) in
    let own : c.push_reserved-4.new.self.items ≡ x.own ++ Reported report c.view-view.result ∷ [] =
    c.push_reserved-4.ensures.items ∙ ap (λ l. l ++ Reported report c.view-view.result ∷ []) c.in_ok-reserve-3.ensures.items in
    let own_is : c.push_reserved-4.new.self.items ≡ x.own ++ Reported (next_report x (new_order leg) New) (view_of (suc (length x.orders)) (new_order leg)) ∷ [] =
    own ∙ (ap (λ r. x.own ++ Reported r c.view-view.result ∷ []) report_is
    ∙ ap (λ v. x.own ++ Reported (next_report x (new_order leg) New) v ∷ []) view_is) in
    let copy : c.unwrap.result ≡ report = rw c.unwrap.ensures at c.clone.ensures.cases in
    let leg_is : c.leg.result ≡ leg = c.leg.ensures ∙ ap (λ (o : OrderParts). o.leg) c.new-order.ensures in
    record {
      sound = subst IsSound
          (sym (seen_accepted x leg (c.self.inside.expected + 1) c.push_reserved-2.new.self.items c.push_reserved-4.new.self.items (omega arith) orders own_is
          ∙ ap (λ (s : ExchangeParts). (order_taken s leg).1) c.self.view_is))
          c.requires.sound;
      accepted = c.push_reserved.ensures.items
          ∙ (ap (λ l. l ++ c.leg.result ∷ []) (c.in_ok-reserve-2.ensures.items ∙ c.self.invariant.accepted)
          ∙ (ap (λ l. map (λ (o : OrderParts). o.leg) x.orders ++ l ∷ []) leg_is
          ∙ (sym (legs_more x.orders (new_order leg)) ∙ ap (λ (l : List OrderParts). map (λ (o : OrderParts). o.leg) l) (sym orders))));
      reports = c.push_reserved-3.ensures.items
          ∙ (ap (λ r. r ++ c.unwrap.result ∷ []) (c.in_ok-reserve-4.ensures.items ∙ c.self.invariant.reports)
          ∙ (ap (λ r. reports_of x.own ++ r ∷ []) copy
          ∙ (sym (reports_more x.own report c.view-view.result) ∙ ap reports_of (sym own))));
    }

use Rattle.std.proofs.Common.{◌≡◌, ◌+◌, ◌≤◌, Some, sym, ap, ◌∙◌, subst, arith}
use Rattle.std.proofs.lemmas.Option.{same_Some}
use Rattle.leg.specs.Numbered.{numbered}
use Rattle.dialect.specs.OrderView.{OrderViewParts}
use Rattle.dialect.specs.declared.report.Report.{Report}
use Rattle.exchange_core.specs.SentRecord.{next_exec, exec_id}
use Rattle.exchange_core.specs.OrderDecision.{stepped}
use Rattle.exchange_core.specs.Sound.{IsSound}
use Rattle.exchange_core.proofs.Reporting.{read_at, fit_for, made_by, within_view, view_there, there_is, view_at, report_on, report_given}
use Rattle.exchange_core.proofs.exchange.Exchange.report.Goals as goal

pub id_of_report-requires : goal.id_of_report-requires
id_of_report-requires g c =
    let x = c.args.self.now in
    let decision = c.args.decision in
    let order = c.requires.there.order in
    let there = c.requires.there.there in
    let before : IsSound x = subst IsSound c.self.view_is c.self.invariant.sound in
    let fit = fit_for x c.args.place decision order there c.requires.fit in
    let made = made_by x c.args.place (stepped decision.split decision.step order) order decision.kind before there fit.sound in
    omega (arith, c.next_count.ensures, made.count, ap (λ s. next_exec s.own) c.self.view_is)

pub id_of_order-order_id-requires : goal.id_of_order-order_id-requires
id_of_order-order_id-requires g c =
    let x = c.args.self.now in
    let decision = c.args.decision in
    let order = c.requires.there.order in
    let there = c.requires.there.there in
    let before : IsSound x = subst IsSound c.self.view_is c.self.invariant.sound in
    let fit = fit_for x c.args.place decision order there c.requires.fit in
    let made = made_by x c.args.place (stepped decision.split decision.step order) order decision.kind before there fit.sound in
    omega (arith, made.small)

pub unwrap-view-requires : goal.unwrap-view-requires
unwrap-view-requires g c =
    let x = c.args.self.now in
    let decision = c.args.decision in
    let order = c.requires.there.order in
    let there = c.requires.there.there in
    let before : IsSound x = subst IsSound c.self.view_is c.self.invariant.sound in
    let fit = fit_for x c.args.place decision order there c.requires.fit in
    let made = made_by x c.args.place (stepped decision.split decision.step order) order decision.kind before there fit.sound in
    let found : numbered c.args.place c.self.inside.orders.items ≡ Some order = ap (λ s. numbered c.args.place s.orders) c.self.view_is ∙ there in
    let leg_is : c.leg-leg.result ≡ order.leg = c.leg-leg.ensures ∙ ap (λ o. o.leg) (read_at c.self.inside.orders.items c.args.place order c.index.result.now found c.index.ensures) in
    let within = within_view x c.args.place decision.split decision.step order decision.kind made in
    let fits : c.filled.result + c.still_open.result ≤ c.leg-leg.result.terms.shares = omega (arith, within, c.filled.ensures.value, c.still_open.ensures.value, ap (λ l. l.terms.shares) leg_is) in
    let some = view_there c.leg-leg.result c.id_of_order-order_id.result c.filled.result c.still_open.result c.new.result c.new.ensures fits in
    there_is c.new.result _ some

pub returns-clause-gives : goal.returns-clause-gives
returns-clause-gives g c =
    let x = c.args.self.now in
    let decision = c.args.decision in
    let order = c.requires.there.order in
    let there = c.requires.there.there in
    let before : IsSound x = subst IsSound c.self.view_is c.self.invariant.sound in
    let fit = fit_for x c.args.place decision order there c.requires.fit in
    let made = made_by x c.args.place (stepped decision.split decision.step order) order decision.kind before there fit.sound in
    let found : numbered c.args.place c.self.inside.orders.items ≡ Some order = ap (λ s. numbered c.args.place s.orders) c.self.view_is ∙ there in
    let leg_is : c.leg-leg.result ≡ order.leg = c.leg-leg.ensures ∙ ap (λ o. o.leg) (read_at c.self.inside.orders.items c.args.place order c.index.result.now found c.index.ensures) in
    let within = within_view x c.args.place decision.split decision.step order decision.kind made in
    let fits : c.filled.result + c.still_open.result ≤ c.leg-leg.result.terms.shares = omega (arith, within, c.filled.ensures.value, c.still_open.ensures.value, ap (λ l. l.terms.shares) leg_is) in
    let some = view_there c.leg-leg.result c.id_of_order-order_id.result c.filled.result c.still_open.result c.new.result c.new.ensures fits in
    let count : c.next_count.result ≡ next_exec x.own = c.next_count.ensures in
    let exec_is : c.id_of_report.result ≡ exec_id (next_exec x.own) = c.id_of_report.ensures ∙ ap exec_id count in
    let report_is : (let r : Report = record { id = c.leg-leg.result.id; exec = c.id_of_report.result; kind = decision.kind } in r) ≡ report_on x order decision.kind =
    λ k. record { id = (leg_is k).id; exec = exec_is k; kind = decision.kind } in
    let parts : (let v : OrderViewParts = record { leg = c.leg-leg.result; order_id = c.id_of_order-order_id.result; cum = c.filled.result; leaves = c.still_open.result } in v) ≡ view_at c.args.place order decision.split =
    λ k. record { leg = leg_is k; order_id = c.id_of_order-order_id.ensures k; cum = c.filled.ensures.value k; leaves = c.still_open.ensures.value k } in
    let view_is : c.unwrap-view.result ≡ view_at c.args.place order decision.split = same_Some c.unwrap-view.result _ (sym c.unwrap-view.ensures ∙ some) ∙ parts in
    report_given _ c.args.stamp.now x c.args.place decision order c.in_ok-frame.frame c.keep_report.new.self _ c.unwrap-view.result there report_is view_is c.in_ok-frame.ensures c.in_ok-keep_report.ensures.ok

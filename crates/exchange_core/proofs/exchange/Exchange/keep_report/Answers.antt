use Rattle.std.proofs.Common.{◌≡◌, ◌-◌, ◌∷◌, ◌++◌, [], map, Some, sym, ap, ◌∙◌, subst, arith}
use Rattle.std.specs.Prelude.{slice_set}
use Rattle.leg.specs.Numbered.{numbered}
use Rattle.exchange_core.specs.Kept.{exchange_seen, reports_of}
use Rattle.exchange_core.specs.declared.sent_record.SentRecord.TheVariants.{Reported}
use Rattle.exchange_core.specs.OrderDecision.{stepped, IsPlaced, after_step}
use Rattle.exchange_core.specs.Sound.{IsSound}
use Rattle.exchange_core.proofs.Reporting.{within_by, read_at, legs_stepped, reports_more, seen_stepped}
use Rattle.exchange_core.proofs.exchange.Exchange.keep_report.Goals as goal

pub index_mut-requires : goal.index_mut-requires
index_mut-requires c =
    let x = c.self.inside in
    let there : numbered c.args.place x.orders.items ≡ Some c.requires.there.order = ap (λ s. numbered c.args.place s.orders) c.self.view_is ∙ c.requires.there.there in
    let within = within_by x.orders.items c.args.place c.requires.there.order there in
    omega (arith, within.0, within.1, x.orders.ok.0)

pub step-requires : goal.step-requires
step-requires c =
    let x = c.self.inside in
    let there : numbered c.args.place x.orders.items ≡ Some c.requires.there.order = ap (λ s. numbered c.args.place s.orders) c.self.view_is ∙ c.requires.there.there in
    let order = read_at x.orders.items c.args.place c.requires.there.order c.index_mut.result.now there c.index_mut.ensures.value in
    subst (IsPlaced c.args.step) (sym order) c.requires.there.trade

pub returns-clause-ok : goal.returns-clause-ok
returns-clause-ok c =
    let x = c.self.inside in
    let there : numbered c.args.place x.orders.items ≡ Some c.requires.there.order = ap (λ s. numbered c.args.place s.orders) c.self.view_is ∙ c.requires.there.there in
    let order = read_at x.orders.items c.args.place c.requires.there.order c.index_mut.result.now there c.index_mut.ensures.value in
    let now : c.step.new.self ≡ stepped c.args.split c.args.step c.requires.there.order = c.in_ok-step.ensures.ok ∙ ap (stepped c.args.split c.args.step) order in
    seen_stepped (exchange_seen x) c.args.place c.args.split c.args.step (Reported c.args.report c.args.view) c.requires.there.order _ _ there
    (ap (slice_set x.orders.items (c.args.place - 1)) now)
    (c.push_reserved-2.ensures.items ∙ ap (λ own. own ++ Reported c.args.report c.args.view ∷ []) c.in_ok-reserve.ensures.items)
    ∙ ap (λ s. after_step s c.args.place c.args.split c.args.step (Reported c.args.report c.args.view)) c.self.view_is

pub invariant_of-self-2 : goal.invariant_of-self-2
invariant_of-self-2 c =
    let x = c.self.inside in
    let there : numbered c.args.place x.orders.items ≡ Some c.requires.there.order = ap (λ s. numbered c.args.place s.orders) c.self.view_is ∙ c.requires.there.there in
    let order = read_at x.orders.items c.args.place c.requires.there.order c.index_mut.result.now there c.index_mut.ensures.value in
    let now : c.step.new.self ≡ stepped c.args.split c.args.step c.requires.there.order = c.in_ok-step.ensures.ok ∙ ap (stepped c.args.split c.args.step) order in
    let own = c.push_reserved-2.ensures.items ∙ ap (λ own. own ++ Reported c.args.report c.args.view ∷ []) c.in_ok-reserve.ensures.items in
    let copy : c.unwrap.result ≡ c.args.report = rw c.unwrap.ensures at c.clone.ensures.cases in
    record {
      sound = subst IsSound
          (sym (seen_stepped (exchange_seen x) c.args.place c.args.split c.args.step (Reported c.args.report c.args.view) c.requires.there.order _ _ there
          (ap (slice_set x.orders.items (c.args.place - 1)) now) own
          ∙ ap (λ s. after_step s c.args.place c.args.split c.args.step (Reported c.args.report c.args.view)) c.self.view_is))
          c.requires.sound;
      accepted = c.self.invariant.accepted
          ∙ sym (ap (λ o. map (λ order. order.leg) (slice_set x.orders.items (c.args.place - 1) o)) now
          ∙ legs_stepped x.orders.items c.args.place c.args.split c.args.step c.requires.there.order there);
      reports = c.push_reserved.ensures.items
          ∙ (ap (λ r. r ++ c.unwrap.result ∷ []) (c.in_ok-reserve-2.ensures.items ∙ c.self.invariant.reports)
          ∙ (ap (λ r. reports_of x.own.items ++ r ∷ []) copy
          ∙ (sym (reports_more x.own.items c.args.report c.args.view) ∙ ap reports_of (sym own))));
    }

use Rattle.std.proofs.Common.{rules, ◌≡◌, ◌∙◌, ap, arith}
use Rattle.desk_venues.specs.Venues.{cut_of}
use Rattle.desk_venues.proofs.Addressing.{places_more}
use Rattle.desk_venues.proofs.Plans.{plans_more}
use Rattle.desk_venues.proofs.opening.open_places.Goals as goal

pub loop-venue-preserved : goal.loop-venue-preserved
loop-venue-preserved g c =
    let each = c.loop-venue.invariant.each in
    let held = c.loop-venue.goals.ok.0 in
    let counted = c.len.ensures in
    let place : c.len.result ≡ c.loop-venue.venue-index = omega (arith, counted, held, each) in
    let own_is = c.cut_of-own.ensures ∙ ap (cut_of c.args.cut) place in
    let places = places_more (λ e. e.addr) c.args.venues.now c.loop-venue.venue-index c.venue-item.result
    c.loop-venue.goals.items _ _ c.loop-venue.exchanges.items _ _ c.loop-venue-test.true c.venue-item.is
    c.in_ok-push.ensures.items c.in_ok-push_exchange.ensures c.in_ok-goal.ensures.at c.in_ok-goal.ensures.own
    c.loop-venue.invariant.at c.loop-venue.invariant.own in
    record {
      at = places.0;
      own = places.1;
      plans = plans_more (λ e. e.acceptor.plan) c.args.cut c.args.venues.now c.loop-venue.venue-index c.venue-item.result _
          c.loop-venue.exchanges.items _ _ c.loop-venue-test.true c.venue-item.is own_is c.loop-venue.invariant.plans
          c.in_ok-push_exchange.ensures c.in_ok-goal.ensures.plan;
      each = search rules;
    }

use Rattle.std.proofs.Common.{◌≡◌, ◌<◌, length, sym, subst, ◌∙◌}
use Rattle.std.specs.Prelude.{OnOk}
use Rattle.leg.specs.Numbered.{numbered}
use Rattle.schedule.specs.declared.event.Event.TheVariants as event
use Rattle.schedule.specs.World.{World, VenueParts}
use Rattle.schedule.specs.Happening.{with_venue, happens}
use Rattle.venue_replay.specs.Delivering.{taken}
use Rattle.replay.proofs.EventsHappen.{at_index}
use Rattle.venue_replay.proofs.ExchangeTakes.{to_exchange_happens}
use Rattle.replay.proofs.world.World.deliver_to_exchange.Goals as goal

pub returns : goal.returns
returns g c =
    let w : World = record { desk = c.self.inside.desk.desk; book = c.self.inside.book; venues = c.self.inside.venues.items } in
    let v = c.args.venue in
    let n = c.args.frame in
    let before : VenueParts = c.index_mut.result.now in
    let now : VenueParts = c.deliver_to_exchange.new.self in
    let low : v < length w.venues = subst (λ (world : World). v < length world.venues) (sym c.self.view_is) c.requires in
    subst (λ (world : World). OnOk c.deliver_to_exchange.result (with_venue w c.from.result now ≡ happens world (event.ToExchange v n))) c.self.view_is
    (at_index w c.from.result v before now (now ≡ taken before (numbered n before.to_exchange)) (event.ToExchange v n) c.deliver_to_exchange.result
    (c.from.ensures ∙ c.number.ensures.value) low c.index_mut.ensures.value c.deliver_to_exchange.ensures
    (to_exchange_happens w v before now n))

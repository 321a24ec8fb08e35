use Rattle.std.proofs.Common.{◌≡◌, Option, Some, None, ap, ◌∙◌}
use Rattle.std.specs.Option.{option_map_or}
use Rattle.schedule.specs.World.{VenueParts, venue_in}
use Rattle.replay.proofs.world.World.exchange_expects.Goals as goal

pub returns-in-Some : goal.returns-in-Some
returns-in-Some g c =
    let there : Some c.in-Some.venue.now ≡ venue_in c.args.self.now c.args.venue = rw c.in-Some.is at c.venue.ensures in
    c.exchange_expects.ensures ∙ ap (λ (o : Option VenueParts). option_map_or (λ v. v.exchange.expected) o 0) there

pub returns-in-None : goal.returns-in-None
returns-in-None g c =
    let absent : None ≡ venue_in c.args.self.now c.args.venue = rw c.in-None.is at c.venue.ensures in
    ap (λ (o : Option VenueParts). option_map_or (λ v. v.exchange.expected) o 0) absent

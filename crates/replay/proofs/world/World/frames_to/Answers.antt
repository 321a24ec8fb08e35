use Rattle.std.proofs.Common.{◌≡◌, [], Option, Some, None, sym, ap, ◌∙◌}
use Rattle.std.specs.Option.{option_map_or}
use Rattle.schedule.specs.World.{VenueParts, venue_in}
use Rattle.venue_replay.proofs.NoFrames.{no_readers}
use Rattle.replay.proofs.world.World.frames_to.Goals as goal

pub returns-in-Some : goal.returns-in-Some
returns-in-Some g c =
    let there : Some c.in-Some.venue.now ≡ venue_in c.args.self.now c.args.venue = rw c.in-Some.is at c.venue.ensures in
    (c.frames_to.ensures.0, sym (ap (λ (o : Option VenueParts). option_map_or (λ v. v.to_exchange) o []) there) ∙ c.frames_to.ensures.1)

pub returns-in-None : goal.returns-in-None
returns-in-None g c =
    let absent : None ≡ venue_in c.args.self.now c.args.venue = rw c.in-None.is at c.venue.ensures in
    (no_readers, sym (ap (λ (o : Option VenueParts). option_map_or (λ v. v.to_exchange) o []) absent))

use Rattle.std.proofs.Common.{◌≡◌, Option, IfOk, subst}
use Rattle.leg.specs.declared.placed_leg.PlacedLeg.{PlacedLeg}
use Rattle.desk_floor.proofs.Rising.{found_under}
use Rattle.desk_floor.proofs.legs.released_leg.Goals as goal

pub returns-clause-value : goal.returns-clause-value
returns-clause-value c =
    subst (λ (told : Option PlacedLeg). IfOk c.leg_at.result (λ found. found ≡ told))
    (found_under c.args.desk.now.desk c.args.venue c.place_of.result c.args.id c.released-legs.result.now
    c.released-legs.ensures c.place_of.ensures.few c.place_of.ensures.halves) c.leg_at.ensures

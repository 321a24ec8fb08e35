use Rattle.std.proofs.Common.{◌∙◌}
use Rattle.replay.proofs.Placed.{placed_apart}
use Rattle.replay.proofs.world.World.release.Goals as goal

pub invariant_of-self : goal.invariant_of-self
invariant_of-self g c =
    placed_apart c.self.inside.desk c.place-placed.new.desk c.self.inside.book c.place-placed.new.book c.args.sweep.legs
    c.place-placed.result c.place-placed.ensures.answer
    ∙ c.self.invariant

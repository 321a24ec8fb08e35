use Rattle.std.proofs.Common.{◌≡◌, ◌≤◌, List, length, take, sym, ap, subst, ◌∙◌, arith}
use Rattle.schedule.specs.World.{World}
use Rattle.replay.proofs.world.World.desk_again.Goals as goal

pub desk_again-requires : goal.desk_again-requires
desk_again-requires g c =
    let low : 1 ≤ length c.self.inside.venues.items =
    subst (λ (w : World). 1 ≤ length w.venues) (sym c.self.view_is) c.requires.low in
    let same = c.self.invariant in
    omega arith

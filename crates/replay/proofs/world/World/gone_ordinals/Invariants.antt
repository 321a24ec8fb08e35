use Rattle.std.proofs.Common.{◌≡◌, ◌++◌, suc, drop}
use Rattle.schedule.specs.World.{released_to, state_of}
use Rattle.replay.specs.Ruling.{gone_from, gone_ordinals}
use Rattle.replay.proofs.world.World.gone_ordinals.Given as goal

abbrev pub invariant-loop-at : goal.invariant-loop-at
invariant-loop-at g l = l.gone.items
    ++ gone_from (state_of l.self l.venue) (suc l.at) (drop l.at (released_to l.self l.venue))
    ≡ gone_ordinals l.self l.venue

use Rattle.std.proofs.Common.{◌≡◌}
use Rattle.live_load.specs.Config.{venues_to}
use Rattle.live_load.proofs.config.venues_of.Given as goal

abbrev pub invariant-loop-number : goal.invariant-loop-number
invariant-loop-number l = l.all.items ≡ venues_to l.number

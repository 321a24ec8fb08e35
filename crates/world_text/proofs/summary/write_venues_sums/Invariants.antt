use Rattle.std.proofs.Common.{◌≡◌, ◌++◌, drop}
use Rattle.std.specs.Prelude.{string_bytes}
use Rattle.world_text.specs.Summary.{venues_sums}
use Rattle.world_text.proofs.summary.write_venues_sums.Given as goal

abbrev pub invariant-loop-number : goal.invariant-loop-number
invariant-loop-number g l =
    string_bytes l.text ++ venues_sums l.world l.number (drop l.number l.world.venues)
    ≡ string_bytes l.initial.text ++ venues_sums l.world 0 l.world.venues

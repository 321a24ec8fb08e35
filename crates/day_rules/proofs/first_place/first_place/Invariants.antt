use Rattle.std.proofs.Common.{◌≡◌}
use Rattle.day_rules.specs.Judged.{first_place}
use Rattle.day_rules.proofs.first_place.first_place.Given as goal

abbrev pub invariant-loop-venue : goal.invariant-loop-venue
invariant-loop-venue l = l.found ≡ first_place l.desk l.sentence l.venues l.venue

use Rattle.std.proofs.Common.{◌≡◌, length}
use Rattle.desk_venues.proofs.views.views_of.Given as goal

abbrev pub invariant-each : goal.invariant-each
invariant-each l = length l.views.items ≡ l.counter

use Rattle.std.proofs.Common.{◌≡◌, length, map, take}
use Rattle.desk_venues.proofs.views.names_of.Given as goal

abbrev pub invariant-loop-venue : goal.invariant-loop-venue
invariant-loop-venue l = record {
  each : l.names.items ≡ map (λ v. v.name) (take l.venue-index l.venues);
  as_many : length l.names.items ≡ l.venue-index;
}

use Rattle.std.proofs.Common.{◌≡◌, map, take}
use Rattle.desk_doors.proofs.limiting.legs_limits.Given as goal

abbrev pub invariant-loop-venue : goal.invariant-loop-venue
invariant-loop-venue l = l.limits.items ≡ map (λ venue. venue.limits) (take l.venue-index l.venues)

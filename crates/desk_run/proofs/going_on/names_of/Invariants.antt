use Rattle.std.proofs.Common.{◌≡◌, map, take}
use Rattle.desk_run.proofs.going_on.names_of.Given as goal

abbrev pub invariant-loop-venue : goal.invariant-loop-venue
invariant-loop-venue l = l.names.items ≡ map (λ v. v.name) (take l.venue-index l.venues)

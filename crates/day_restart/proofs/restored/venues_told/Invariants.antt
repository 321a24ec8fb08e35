use Rattle.std.proofs.Common.{◌≡◌, map, take}
use Rattle.day_restart.specs.Told.{venue_rows}
use Rattle.day_restart.proofs.restored.venues_told.Given as goal

abbrev pub invariant-loop-place : goal.invariant-loop-place
invariant-loop-place g l =
    l.venues.items ≡ venue_rows (take l.place (map (λ p. p.name.now) l.pasts)) (take l.place l.starts)

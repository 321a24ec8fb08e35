use Rattle.std.proofs.Common.{◌≡◌, ◌+◌, length}
use Rattle.day_log.proofs.going_on.go_on_with_each.Given as goal

abbrev pub invariant-loop-venue : goal.invariant-loop-venue
invariant-loop-venue g l =
    (length l.logs.venues.items ≡ l.venue-index) × (length l.logs.writers.items ≡ l.venue-index + 1)

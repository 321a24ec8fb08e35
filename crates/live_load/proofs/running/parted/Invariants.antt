use Rattle.std.proofs.Common.{◌≡◌, ◌+◌, ◌++◌, length, map}
use Rattle.std.specs.Prelude.{sum_by}
use Rattle.live_load.proofs.running.parted.Given as goal

abbrev pub invariant-loop-end : goal.invariant-loop-end
invariant-loop-end g l =
    (l.seats.items ++ map (λ e. e.seat) l.ends.items ≡ map (λ e. e.seat) l.fn.ends.items)
    × (l.unplaced + sum_by (λ e. e.unplaced) l.ends.items ≡ sum_by (λ e. e.unplaced) l.fn.ends.items)

abbrev pub decreases-loop-end : goal.decreases-loop-end
decreases-loop-end g l = length l.ends.items

use Rattle.std.proofs.Common.{◌≡◌, ℕ, ◌≤◌, List, ◌++◌, length}
use Rattle.link.specs.Traffic.{Tells, Takes}
use Rattle.dressed_link.proofs.dresser.flush.Given as goal

abbrev pub invariant-loop-link : goal.invariant-loop-link
invariant-loop-link g l =
    (gone : List ℕ) × (l.fn.pending.items ≡ gone ++ l.pending.items)
    × Tells (g.K.Link.wire l.fn.link) (g.K.Link.wire l.link) (Takes gone)
    × (g.K.Link.fault_count l.fn.link ≤ g.K.Link.fault_count l.link)

abbrev pub decreases-loop-link : goal.decreases-loop-link
decreases-loop-link g l = length l.pending.items

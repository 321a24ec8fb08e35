use Rattle.std.proofs.Common.{◌≡◌, ℕ, ◌≤◌, List, ◌++◌, length}
use Rattle.link.specs.Traffic.{Tells, Takes}
use Rattle.link.proofs.whole.write_whole.Given as goal

abbrev pub invariant-loop-rest : goal.invariant-loop-rest
invariant-loop-rest g l =
    (before : List ℕ) × (before ++ l.rest ≡ l.bytes) × Tells (g.L.Link.wire l.fn.link) (g.L.Link.wire l.link) (Takes before)
    × (g.L.Link.fault_count l.fn.link ≤ g.L.Link.fault_count l.link)

abbrev pub decreases-loop-rest : goal.decreases-loop-rest
decreases-loop-rest g l = length l.rest

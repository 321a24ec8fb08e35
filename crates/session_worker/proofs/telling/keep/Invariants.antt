use Rattle.std.proofs.Common.{◌≡◌}
use Rattle.link.specs.Traffic.{Tells, Stays}
use Rattle.session_worker.proofs.telling.keep.Given as goal

abbrev pub invariant-loop : goal.invariant-loop
invariant-loop g l =
    (g.J.Telling.told l.journal ≡ g.J.Telling.told l.initial.journal)
    × Tells l.initial.door.wire l.door.wire Stays

use Rattle.std.proofs.Common.{◌≡◌}
use Rattle.release_lock.proofs.noting.keep.Given as goal

-- a journal that refused is as it was
abbrev pub invariant-loop : goal.invariant-loop
invariant-loop g l = g.J.Telling.told l.journal ≡ g.J.Telling.told l.initial.journal

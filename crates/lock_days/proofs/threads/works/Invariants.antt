use Rattle.std.proofs.Common.{◌≡◌}
use Rattle.lock_days.proofs.threads.works.Given as goal

abbrev pub invariant-loop : goal.invariant-loop
invariant-loop g l = l.taken.items ≡ l.drain.popped

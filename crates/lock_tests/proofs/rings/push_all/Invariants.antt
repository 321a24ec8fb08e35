use Rattle.std.proofs.Common.{◌≡◌}
use Rattle.lock_tests.proofs.rings.push_all.Given as goal

abbrev pub invariant-loop-ordinal : goal.invariant-loop-ordinal
invariant-loop-ordinal g l = l.feed.table ≡ l.fn.feed.table

use Rattle.std.proofs.Common.{length}
use Rattle.dialect.proofs.accepted.+has_each_once.Given as goal

abbrev pub decreases-has_each_once : goal.decreases-has_each_once
decreases-has_each_once l = length l.extra.now

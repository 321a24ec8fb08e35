use Rattle.std.proofs.Common.{length}
use Rattle.dialect.proofs.shaped.+push_extra.Given as goal

abbrev pub decreases-push_extra : goal.decreases-push_extra
decreases-push_extra g l = length l.extra.now

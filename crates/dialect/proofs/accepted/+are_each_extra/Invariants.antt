use Rattle.std.proofs.Common.{length}
use Rattle.dialect.proofs.accepted.+are_each_extra.Given as goal

abbrev pub decreases-are_each_extra : goal.decreases-are_each_extra
decreases-are_each_extra l = length l.extra.now

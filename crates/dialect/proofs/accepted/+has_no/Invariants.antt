use Rattle.std.proofs.Common.{length}
use Rattle.dialect.proofs.accepted.+has_no.Given as goal

abbrev pub decreases-has_no : goal.decreases-has_no
decreases-has_no l = length l.extra.now

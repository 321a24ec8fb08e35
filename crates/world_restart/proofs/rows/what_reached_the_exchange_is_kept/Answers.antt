use Rattle.std.proofs.Common.{refl}
use Rattle.std.specs.Fmt.{digits}
use Rattle.world_restart.proofs.rows.what_reached_the_exchange_is_kept.Goals as goal

pub returns-clause-wire : goal.returns-clause-wire
unfolding digits
returns-clause-wire c = refl

pub returns-clause-release : goal.returns-clause-release
unfolding digits
returns-clause-release c = refl

pub returns-clause-other : goal.returns-clause-other
unfolding digits
returns-clause-other c = refl

use Rattle.std.proofs.Common.{refl}
use Rattle.std.specs.Fmt.{digits}
use Rattle.session_core.proofs.rows.counts_what_is_due.Goals as goal

pub returns-clause-heartbeat : goal.returns-clause-heartbeat
unfolding digits
returns-clause-heartbeat c = refl

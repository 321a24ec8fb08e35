use Rattle.std.proofs.Common.{refl}
use Rattle.std.specs.Fmt.{digits}
use Rattle.session_core.proofs.rows.asks_for_what_is_missing.Goals as goal

pub returns-clause-reject : goal.returns-clause-reject
unfolding digits
returns-clause-reject c = refl

pub returns-clause-resend : goal.returns-clause-resend
unfolding digits
returns-clause-resend c = refl

pub returns-clause-logon : goal.returns-clause-logon
unfolding digits
returns-clause-logon c = refl

pub returns-clause-fence : goal.returns-clause-fence
unfolding digits
returns-clause-fence c = refl

pub returns-clause-taken : goal.returns-clause-taken
unfolding digits
returns-clause-taken c = refl

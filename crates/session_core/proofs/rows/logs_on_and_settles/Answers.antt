use Rattle.std.proofs.Common.{refl}
use Rattle.std.specs.Fmt.{digits}
use Rattle.session_core.proofs.rows.logs_on_and_settles.Goals as goal

pub returns-clause-fence : goal.returns-clause-fence
unfolding digits
returns-clause-fence c = refl

pub returns-clause-phase : goal.returns-clause-phase
unfolding digits
returns-clause-phase c = refl

pub returns-clause-settled : goal.returns-clause-settled
unfolding digits
returns-clause-settled c = refl

pub returns-clause-passed : goal.returns-clause-passed
unfolding digits
returns-clause-passed c = refl

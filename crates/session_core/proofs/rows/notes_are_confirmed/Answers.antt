use Rattle.std.proofs.Common.{refl}
use Rattle.std.specs.Fmt.{digits}
use Rattle.session_core.proofs.rows.notes_are_confirmed.Goals as goal

pub returns-clause-refused : goal.returns-clause-refused
unfolding digits
returns-clause-refused c = refl

pub returns-clause-refused_by_business : goal.returns-clause-refused_by_business
unfolding digits
returns-clause-refused_by_business c = refl

pub returns-clause-refused_when_taken : goal.returns-clause-refused_when_taken
unfolding digits
returns-clause-refused_when_taken c = refl

use Rattle.std.proofs.Common.{refl}
use Rattle.std.specs.Fmt.{digits}
use Rattle.session_core.proofs.rows.settles_nothing_by_what_was_forgotten.Goals as goal

pub returns-clause-resend : goal.returns-clause-resend
unfolding digits
returns-clause-resend c = refl

pub returns-clause-resend_of_settled : goal.returns-clause-resend_of_settled
unfolding digits
returns-clause-resend_of_settled c = refl

pub returns-clause-resend_above : goal.returns-clause-resend_above
unfolding digits
returns-clause-resend_above c = refl

pub returns-clause-ahead : goal.returns-clause-ahead
unfolding digits
returns-clause-ahead c = refl

pub returns-clause-doubt : goal.returns-clause-doubt
unfolding digits
returns-clause-doubt c = refl

pub returns-clause-silence : goal.returns-clause-silence
unfolding digits
returns-clause-silence c = refl

pub returns-clause-down : goal.returns-clause-down
unfolding digits
returns-clause-down c = refl

pub returns-clause-told : goal.returns-clause-told
unfolding digits
returns-clause-told c = refl

pub returns-clause-told_settled : goal.returns-clause-told_settled
unfolding digits
returns-clause-told_settled c = refl

pub returns-clause-told_above : goal.returns-clause-told_above
unfolding digits
returns-clause-told_above c = refl

pub returns-clause-told_doubt : goal.returns-clause-told_doubt
unfolding digits
returns-clause-told_doubt c = refl

pub returns-clause-not_chosen : goal.returns-clause-not_chosen
unfolding digits
returns-clause-not_chosen c = refl

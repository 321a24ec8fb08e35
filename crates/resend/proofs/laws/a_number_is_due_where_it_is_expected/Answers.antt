use Rattle.resend.proofs.Due.{due_is_expected, ahead_is_above}
use Rattle.resend.proofs.laws.a_number_is_due_where_it_is_expected.Goals as goal

pub returns-clause-due : goal.returns-clause-due
returns-clause-due c = due_is_expected

pub returns-clause-ahead : goal.returns-clause-ahead
returns-clause-ahead c = ahead_is_above

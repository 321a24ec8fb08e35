use Rattle.schedule.proofs.Happened.{event_is_later, happen_is_later}
use Rattle.schedule.proofs.laws.what_was_done_stands.Goals as goal

pub returns-clause-happens : goal.returns-clause-happens
returns-clause-happens c = event_is_later

pub returns-clause-happen : goal.returns-clause-happen
returns-clause-happen c = happen_is_later

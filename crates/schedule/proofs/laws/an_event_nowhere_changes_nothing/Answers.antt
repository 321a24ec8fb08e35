use Rattle.schedule.proofs.Happened.{absent_unchanged}
use Rattle.schedule.proofs.laws.an_event_nowhere_changes_nothing.Goals as goal

pub returns : goal.returns
returns c = absent_unchanged

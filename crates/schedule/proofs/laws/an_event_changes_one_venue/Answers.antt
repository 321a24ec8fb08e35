use Rattle.schedule.proofs.Happened.{others_untouched}
use Rattle.schedule.proofs.laws.an_event_changes_one_venue.Goals as goal

pub returns : goal.returns
returns c = others_untouched

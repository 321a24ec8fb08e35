use Rattle.toml.specs.View.{view}
use Rattle.desk_config.specs.Venues.{AnswersVenues, venues_of}
use Rattle.desk_config.proofs.Apart.{answered_apart}
use Rattle.desk_config.proofs.venues.read_venues.Goals as goal

pub returns-in-Ok-clause-apart : goal.returns-in-Ok-clause-apart
unfolding venues_of
returns-in-Ok-clause-apart c =
    let says : AnswersVenues (venues_of c.args.desk.now (view c.args.file.now)) c.each_venue.result =
    rw c.in-Ok.ensures.value c.each_venue.ensures in
    answered_apart c.args.desk.now (view c.args.file.now) c.each_venue.result says

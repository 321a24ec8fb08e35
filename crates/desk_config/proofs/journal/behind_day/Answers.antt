use Rattle.desk_config.proofs.DayParts.{behind_is}
use Rattle.desk_config.proofs.journal.behind_day.Goals as goal

pub returns : goal.returns
returns c = behind_is c.args.rest.now c.strip_prefix.result c.strip_prefix.ensures.cases

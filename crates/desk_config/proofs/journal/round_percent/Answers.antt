use Rattle.desk_config.proofs.DayParts.{round_percent}
use Rattle.desk_config.proofs.journal.round_percent.Goals as goal

pub returns : goal.returns
returns c = round_percent c.args.text.now c.split_once.result c.split_once.ensures.cases

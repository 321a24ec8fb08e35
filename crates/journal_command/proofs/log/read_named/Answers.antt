use Rattle.journal_command.proofs.Logs.{listed_read}
use Rattle.journal_command.proofs.log.read_named.Goals as goal

pub returns : goal.returns
returns g c = listed_read _ c.read_listed.result c.read_listed.ensures

use Rattle.day_log.proofs.Splitting.{messages_keep}
use Rattle.day_log.proofs.laws.no_byte_is_lost.Goals as goal

pub returns : goal.returns
returns c = messages_keep

use Rattle.fix_tags.proofs.MessageLaws.{written_messages_read_back}
use Rattle.fix_tags.proofs.laws.written_messages_read_back.Goals as goal

pub returns : goal.returns
returns c = written_messages_read_back

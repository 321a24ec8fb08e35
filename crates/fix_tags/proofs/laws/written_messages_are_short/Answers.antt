use Rattle.fix_tags.proofs.MessageLaws.{written_messages_are_short}
use Rattle.fix_tags.proofs.laws.written_messages_are_short.Goals as goal

pub returns : goal.returns
returns c = written_messages_are_short

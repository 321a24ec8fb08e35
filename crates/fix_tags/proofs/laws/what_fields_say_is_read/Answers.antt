use Rattle.fix_tags.proofs.Said.{said_is_read}
use Rattle.fix_tags.proofs.laws.what_fields_say_is_read.Goals as goal

pub returns : goal.returns
returns c = said_is_read

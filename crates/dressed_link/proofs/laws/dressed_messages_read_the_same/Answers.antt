use Rattle.dressed_link.proofs.Keeping.{read_the_same}
use Rattle.dressed_link.proofs.laws.dressed_messages_read_the_same.Goals as goal

pub returns : goal.returns
returns c = read_the_same

use Rattle.fix_tags.proofs.MessageLaws.{application_messages_fit}
use Rattle.fix_tags.proofs.laws.application_messages_fit.Goals as goal

pub returns : goal.returns
returns c = application_messages_fit

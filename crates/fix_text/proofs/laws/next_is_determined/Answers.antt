use Rattle.fix_text.proofs.NextFrames.{next_is, next_unique}
use Rattle.fix_text.proofs.laws.next_is_determined.Goals as goal

pub returns : goal.returns
returns c = record { is = next_is; only = next_unique }

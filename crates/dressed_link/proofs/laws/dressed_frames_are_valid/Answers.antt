use Rattle.dressed_link.proofs.Keeping.{valid_again}
use Rattle.dressed_link.proofs.laws.dressed_frames_are_valid.Goals as goal

pub returns : goal.returns
returns c = valid_again

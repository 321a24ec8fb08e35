use Rattle.dressed_link.proofs.Keeping.{taken_dressed}
use Rattle.dressed_link.proofs.laws.written_frames_are_taken.Goals as goal

pub returns : goal.returns
returns c = taken_dressed

use Rattle.dressed_link.proofs.Passing.{broke}
use Rattle.dressed_link.proofs.dresser.Dresser.shut.Goals as goal

pub returns-clause-carries : goal.returns-clause-carries
returns-clause-carries g c = λ passes. broke _ _ _ _ _ _ _ passes c.clear.ensures.items c.shut.ensures.wire

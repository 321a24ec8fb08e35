use Rattle.fix_tags.proofs.Dressed.{header_passed}
use Rattle.fix_tags.proofs.laws.header_extras_are_passed_over.Goals as goal

pub returns : goal.returns
returns c = header_passed

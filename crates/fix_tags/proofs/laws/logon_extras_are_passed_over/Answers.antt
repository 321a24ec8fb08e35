use Rattle.fix_tags.proofs.Dressed.{logon_passed}
use Rattle.fix_tags.proofs.laws.logon_extras_are_passed_over.Goals as goal

pub returns : goal.returns
returns c = logon_passed

use Rattle.fix_tags.proofs.ReadBack.{shares_of-decimal}
use Rattle.fix_tags.proofs.laws.shares_read_back.Goals as goal

pub returns : goal.returns
returns c = shares_of-decimal c.args.shares c.requires

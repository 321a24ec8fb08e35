use Rattle.fix_tags.proofs.ReadBack.{number_of-decimal}
use Rattle.fix_tags.proofs.laws.number_reads_back.Goals as goal

pub returns : goal.returns
returns c = number_of-decimal c.args.number c.requires

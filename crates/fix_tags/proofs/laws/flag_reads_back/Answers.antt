use Rattle.fix_tags.proofs.ReadBack.{flag_of-flag_text}
use Rattle.fix_tags.proofs.laws.flag_reads_back.Goals as goal

pub returns : goal.returns
returns c = flag_of-flag_text c.args.flag

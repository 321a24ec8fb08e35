use Rattle.fix_tags.proofs.ReadBack.{stamp_read-stamp_text}
use Rattle.fix_tags.proofs.laws.stamp_reads_back.Goals as goal

pub returns-clause-same : goal.returns-clause-same
returns-clause-same c = stamp_read-stamp_text c.args.stamp.now c.year-year.ensures.within

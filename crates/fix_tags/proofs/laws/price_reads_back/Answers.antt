use Rattle.fix_tags.proofs.ReadBack.{price_of-price_short, price_of-price_four}
use Rattle.fix_tags.proofs.laws.price_reads_back.Goals as goal

pub returns-clause-short : goal.returns-clause-short
returns-clause-short c = price_of-price_short c.args.price c.requires.least c.requires.greatest

pub returns-clause-four : goal.returns-clause-four
returns-clause-four c = price_of-price_four c.args.price c.requires.least c.requires.greatest

use Rattle.std.proofs.Common.{length, ap, arith}
use Rattle.dialect.proofs.PriceLength.{price_four-is_short}
use Rattle.dialect.proofs.coded.CodedSpelling.price_text.Goals as goal

pub returns-clause-short : goal.returns-clause-short
returns-clause-short c =
    omega (arith, ap length c.price_four_text.ensures, price_four-is_short c.args.price c.ranges.price.fits)

use Rattle.std.proofs.Common.{length, ap, arith}
use Rattle.dialect.proofs.PriceLength.{price_short-is_short, price_four-is_short}
use Rattle.dialect.proofs.shaped.price_text.Goals as goal

pub returns-in-Short-clause-short : goal.returns-in-Short-clause-short
returns-in-Short-clause-short c =
    omega (arith, ap length c.price_short_text.ensures, price_short-is_short c.args.price c.ranges.price.fits)

pub returns-in-Four-clause-short : goal.returns-in-Four-clause-short
returns-in-Four-clause-short c =
    omega (arith, ap length c.price_four_text.ensures, price_four-is_short c.args.price c.ranges.price.fits)

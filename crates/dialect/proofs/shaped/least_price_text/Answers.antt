use Rattle.std.proofs.Common.{length, ap, arith}
use Rattle.dialect.proofs.PriceLength.{price_short-is_short, price_four-is_short, price_four-is_long}
use Rattle.dialect.proofs.shaped.least_price_text.Goals as goal

pub overflow_sub-len : goal.overflow_sub-len
overflow_sub-len c =
    omega (arith, c.len.ensures.value, ap length c.price_four_text-cut.ensures, price_four-is_long c.args.price)

pub returns-then-len-clause-short : goal.returns-then-len-clause-short
returns-then-len-clause-short c =
    omega (arith, c.truncate.ensures.len, ap length c.price_four_text-cut.ensures, price_four-is_short c.args.price c.ranges.price.fits)

pub returns-else-len-clause-short : goal.returns-else-len-clause-short
returns-else-len-clause-short c =
    omega (arith, ap length c.price_short_text-short.ensures, price_short-is_short c.args.price c.ranges.price.fits)

use Rattle.dialect.proofs.PriceRange.{price_of-in_range}
use Rattle.dialect.proofs.limit.read_order_price.Goals as goal

pub returns-clause-in_range : goal.returns-clause-in_range
returns-clause-in_range c = price_of-in_range c.args.text.now c.read_price.result c.read_price.ensures

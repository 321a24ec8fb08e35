use Rattle.std.proofs.Common.{refl}
use Rattle.std.specs.Fmt.{digits}
use Rattle.exact_price.proofs.rows.prices_that_are_shown.Goals as goal

pub returns-clause-dollars : goal.returns-clause-dollars
unfolding digits
returns-clause-dollars c = refl

pub returns-clause-whole : goal.returns-clause-whole
unfolding digits
returns-clause-whole c = refl

pub returns-clause-least : goal.returns-clause-least
unfolding digits
returns-clause-least c = refl

pub returns-clause-inner_zeros : goal.returns-clause-inner_zeros
unfolding digits
returns-clause-inner_zeros c = refl

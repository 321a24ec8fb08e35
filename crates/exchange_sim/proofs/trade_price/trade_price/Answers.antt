use Rattle.std.proofs.Common.{rules, ◌≡◌, subst, sym}
use Rattle.fix_tags.specs.Price.{price_short}
use Rattle.dialect.specs.FreeText.{IsFreeText}
use Rattle.exchange_core.proofs.Ids.{made}
use Rattle.exchange_sim.proofs.Prices.{price_is_text}
use Rattle.exchange_sim.proofs.trade_price.trade_price.Goals as goal

pub unwrap-requires : goal.unwrap-requires
unwrap-requires c =
    let text : c.as_slice.result.now ≡ price_short c.args.leg.now.terms.price = search rules in
    made 20 c.as_slice.result.now c.new.result c.new.ensures
    (subst (IsFreeText 20) (sym text) (price_is_text c.args.leg.now.terms.price c.price-price.ensures.in_range.price))

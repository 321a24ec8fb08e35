-- What an order's parts are made of.
use Rattle.std.specs.Prelude.{◌≡◌, ℕ, sum_by, if◌then◌else◌}
use Rattle.std.specs.List.{AllByRecursion}
use Rattle.leg.specs.Split.{leg_shares}
use Rattle.exchange_core.specs.Order.{OrderParts, TradeParts}
use Rattle.exchange_core.specs.Exchange.{ExchangeParts}

-- the shares that a trade fills, and those of it that are busted
abbrev pub live_shares : TradeParts → ℕ
live_shares trade = if trade.is_busted then 0 else trade.shares

abbrev pub busted_shares : TradeParts → ℕ
busted_shares trade = if trade.is_busted then trade.shares else 0

-- the parts of an order's shares are those of its leg, and what is filled and busted is what its trades say
pub record SharesAddUp (order : OrderParts) : Type 0 where
  pub parts : leg_shares order.split ≡ order.leg.terms.shares
  pub filled : order.split.filled ≡ sum_by live_shares order.trades
  pub busted : order.split.busted ≡ sum_by busted_shares order.trades

-- each order of the exchange adds up
abbrev pub OrdersAddUp : ExchangeParts → Type 0
OrdersAddUp x = AllByRecursion SharesAddUp x.orders

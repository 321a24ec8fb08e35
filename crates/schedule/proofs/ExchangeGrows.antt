-- Whatever an exchange takes or does, what it accepted and made stands.
use Rattle.std.proofs.Common.{ℕ}
use Rattle.dialect.specs.declared.message.Message.{Message}
use Rattle.exchange_core.specs.Exchange.{ExchangeParts, take, drop_connection}
use Rattle.exchange_core.specs.Keeping.{IsExchangeLater}
use Rattle.exchange_core.proofs.After.{take_after, drop_after, trade_after, cancel_rest_after, reject_after, bust_after, test_after}
use Rattle.schedule.specs.declared.act.Act.{Act}
use Rattle.schedule.specs.declared.act.Act.TheVariants as act
use Rattle.schedule.specs.Happening.{act_of}
use Rattle.schedule.specs.Growing.{HasGrown}
use Rattle.schedule.proofs.Grown.{grown}

after_grows : (x y : ExchangeParts) → IsExchangeLater x y → HasGrown x y
after_grows x y after = grown x y after.accepted (after.own.0, after.own.1)

pub take_grows : (x : ExchangeParts) (connection : ℕ) (m : Message) → HasGrown x (take x connection m).1
take_grows x connection m = after_grows x (take x connection m).1 (take_after x connection m)

pub drop_connection_grows : (x : ExchangeParts) → HasGrown x (drop_connection x)
drop_connection_grows x = after_grows x (drop_connection x) (drop_after x)

act_after : (a : Act) (x : ExchangeParts) → IsExchangeLater x (act_of a x).1
act_after (act.Trade order shares px) x = trade_after x order shares px
act_after (act.CancelRest order) x = cancel_rest_after x order
act_after (act.Reject order) x = reject_after x order
act_after (act.Bust order which) x = bust_after x order which
act_after act.Test x = test_after x

pub act_grows : (a : Act) (x : ExchangeParts) → HasGrown x (act_of a x).1
act_grows a x = after_grows x (act_of a x).1 (act_after a x)

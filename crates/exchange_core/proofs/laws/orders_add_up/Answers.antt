use Rattle.exchange_core.proofs.SharesLaws.{take_adds, trade_adds, cancel_rest_adds, reject_adds, bust_adds, test_adds}
use Rattle.exchange_core.proofs.laws.orders_add_up.Goals as goal

pub returns-clause-take : goal.returns-clause-take
returns-clause-take c = take_adds

pub returns-clause-trade : goal.returns-clause-trade
returns-clause-trade c = trade_adds

pub returns-clause-cancel_rest : goal.returns-clause-cancel_rest
returns-clause-cancel_rest c = cancel_rest_adds

pub returns-clause-reject : goal.returns-clause-reject
returns-clause-reject c = reject_adds

pub returns-clause-bust : goal.returns-clause-bust
returns-clause-bust c = bust_adds

pub returns-clause-test : goal.returns-clause-test
returns-clause-test c = test_adds

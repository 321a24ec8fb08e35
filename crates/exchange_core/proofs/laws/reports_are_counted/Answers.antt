use Rattle.exchange_core.proofs.Counted.{take_counted, trade_counted, cancel_rest_counted, reject_counted, bust_counted, test_counted}
use Rattle.exchange_core.proofs.laws.reports_are_counted.Goals as goal

pub returns-clause-take : goal.returns-clause-take
returns-clause-take c = take_counted

pub returns-clause-trade : goal.returns-clause-trade
returns-clause-trade c = trade_counted

pub returns-clause-cancel_rest : goal.returns-clause-cancel_rest
returns-clause-cancel_rest c = cancel_rest_counted

pub returns-clause-reject : goal.returns-clause-reject
returns-clause-reject c = reject_counted

pub returns-clause-bust : goal.returns-clause-bust
returns-clause-bust c = bust_counted

pub returns-clause-test : goal.returns-clause-test
returns-clause-test c = test_counted

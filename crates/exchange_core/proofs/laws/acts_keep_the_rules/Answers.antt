use Rattle.exchange_core.proofs.ActsKeep.{trade_keeps, cancel_rest_keeps, reject_keeps, bust_keeps, test_keeps, drop_keeps}
use Rattle.exchange_core.proofs.Sound.{no_live}
use Rattle.exchange_core.specs.Exchange.{drop_connection}
use Rattle.std.proofs.Common.{refl}
use Rattle.exchange_core.proofs.laws.acts_keep_the_rules.Goals as goal

pub returns-clause-trade : goal.returns-clause-trade
returns-clause-trade c = trade_keeps

pub returns-clause-cancel_rest : goal.returns-clause-cancel_rest
returns-clause-cancel_rest c = cancel_rest_keeps

pub returns-clause-reject : goal.returns-clause-reject
returns-clause-reject c = reject_keeps

pub returns-clause-bust : goal.returns-clause-bust
returns-clause-bust c = bust_keeps

pub returns-clause-test : goal.returns-clause-test
returns-clause-test c = test_keeps

pub returns-clause-drop_connection : goal.returns-clause-drop_connection
returns-clause-drop_connection c = drop_keeps

pub returns-clause-dropped : goal.returns-clause-dropped
returns-clause-dropped c = λ x. no_live (drop_connection x) refl

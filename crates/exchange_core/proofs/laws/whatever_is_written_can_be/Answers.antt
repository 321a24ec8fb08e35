use Rattle.exchange_core.proofs.Written.{take_said, trade_said, cancel_rest_said, reject_said, bust_said, test_said}
use Rattle.exchange_core.proofs.laws.whatever_is_written_can_be.Goals as goal

pub returns-clause-take : goal.returns-clause-take
returns-clause-take c = take_said

pub returns-clause-trade : goal.returns-clause-trade
returns-clause-trade c = trade_said

pub returns-clause-cancel_rest : goal.returns-clause-cancel_rest
returns-clause-cancel_rest c = cancel_rest_said

pub returns-clause-reject : goal.returns-clause-reject
returns-clause-reject c = reject_said

pub returns-clause-bust : goal.returns-clause-bust
returns-clause-bust c = bust_said

pub returns-clause-test : goal.returns-clause-test
returns-clause-test c = test_said

use Rattle.exchange_core.proofs.Told.{new_is_told, take_told, trade_told, cancel_rest_told, reject_told, bust_told, test_told}
use Rattle.exchange_core.proofs.laws.reports_follow_one_another.Goals as goal

pub returns-clause-new : goal.returns-clause-new
returns-clause-new c config = new_is_told

pub returns-clause-take : goal.returns-clause-take
returns-clause-take c = take_told

pub returns-clause-trade : goal.returns-clause-trade
returns-clause-trade c x place shares px sound told = trade_told x sound told place shares px

pub returns-clause-cancel_rest : goal.returns-clause-cancel_rest
returns-clause-cancel_rest c x place sound told = cancel_rest_told x sound told place

pub returns-clause-reject : goal.returns-clause-reject
returns-clause-reject c x place sound told = reject_told x sound told place

pub returns-clause-bust : goal.returns-clause-bust
returns-clause-bust c x place which sound told = bust_told x sound told place which

pub returns-clause-test : goal.returns-clause-test
returns-clause-test c = test_told

pub returns-clause-drop_connection : goal.returns-clause-drop_connection
returns-clause-drop_connection c x told = told

use Rattle.exchange_core.proofs.Promises.{new_is_sound, take_is_sound, trade_is_sound, cancel_rest_is_sound, reject_is_sound, bust_is_sound, test_is_sound, drop_is_sound}
use Rattle.exchange_core.proofs.laws.an_exchange_stays_sound.Goals as goal

pub returns-clause-new : goal.returns-clause-new
returns-clause-new c = new_is_sound

pub returns-clause-take : goal.returns-clause-take
returns-clause-take c = take_is_sound

pub returns-clause-trade : goal.returns-clause-trade
returns-clause-trade c = trade_is_sound

pub returns-clause-cancel_rest : goal.returns-clause-cancel_rest
returns-clause-cancel_rest c = cancel_rest_is_sound

pub returns-clause-reject : goal.returns-clause-reject
returns-clause-reject c = reject_is_sound

pub returns-clause-bust : goal.returns-clause-bust
returns-clause-bust c = bust_is_sound

pub returns-clause-test : goal.returns-clause-test
returns-clause-test c = test_is_sound

pub returns-clause-drop_connection : goal.returns-clause-drop_connection
returns-clause-drop_connection c = drop_is_sound

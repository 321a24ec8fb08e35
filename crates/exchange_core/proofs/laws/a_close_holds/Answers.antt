use Rattle.exchange_core.proofs.Closing.{take_down}
use Rattle.exchange_core.proofs.laws.a_close_holds.Goals as goal

pub returns : goal.returns
returns c = take_down

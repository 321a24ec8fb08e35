use Rattle.day_executions.proofs.Calls.{give_keeps, withdraw_keeps, open_keeps}
use Rattle.day_executions.proofs.laws.calls_keep_an_index.Goals as goal

pub returns : goal.returns
returns c = record { given = give_keeps; withdraw = withdraw_keeps; open_sweep = open_keeps }

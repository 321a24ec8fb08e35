use Rattle.release_lock.proofs.Holding.{lowers_down}
use Rattle.release_lock.proofs.lowering.let_down.Goals as goal

pub returns-then-from-venues-clause-lowers : goal.returns-then-from-venues-clause-lowers
returns-then-from-venues-clause-lowers c =
    lowers_down c.args.desk.now c.gate_down.new.self c.args.venue c.gate_down.ensures.desk c.gate_down.ensures.history

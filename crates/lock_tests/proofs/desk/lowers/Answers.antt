use Rattle.release_lock.proofs.Holding.{lowers_down}
use Rattle.lock_tests.proofs.desk.lowers.Goals as goal

pub returns-then-from-venues : goal.returns-then-from-venues
returns-then-from-venues c =
    lowers_down c.args.desk.now c.gate_down.new.self c.args.at c.gate_down.ensures.desk c.gate_down.ensures.history

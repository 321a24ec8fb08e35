use Rattle.release_lock.proofs.Holding.{lowers_shut}
use Rattle.session_worker.proofs.gates.let_shut.Goals as goal

pub returns-then-from-venues-clause-lowers : goal.returns-then-from-venues-clause-lowers
returns-then-from-venues-clause-lowers c =
    lowers_shut c.args.desk.now c.shut.new.self c.args.venue c.shut.ensures.desk c.shut.ensures.history

use Rattle.exec_collector.proofs.Counts.{opens_one}
use Rattle.lock_tests.proofs.counts.opens.Goals as goal

pub returns : goal.returns
returns c = opens_one c.args.book.now c.open_sweep.new.self 1 c.args.legs.now c.open_sweep.result c.open_sweep.ensures

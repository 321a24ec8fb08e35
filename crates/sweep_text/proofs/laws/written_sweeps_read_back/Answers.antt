use Rattle.sweep_text.proofs.SweepBack.{sweep_back}
use Rattle.sweep_text.proofs.laws.written_sweeps_read_back.Goals as goal

pub returns : goal.returns
returns c = sweep_back

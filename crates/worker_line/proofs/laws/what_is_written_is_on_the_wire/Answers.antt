use Rattle.worker_line.proofs.Wire.{the_writing_theorem}
use Rattle.worker_line.proofs.laws.what_is_written_is_on_the_wire.Goals as goal

pub returns : goal.returns
returns g c = the_writing_theorem _

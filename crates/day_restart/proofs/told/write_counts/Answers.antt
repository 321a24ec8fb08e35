use Rattle.std.proofs.Common.{append_assoc}
use Rattle.std.proofs.lemmas.Result.{on_ok_weaker}
use Rattle.day_restart.proofs.told.write_counts.Goals as goal

pub returns : goal.returns
returns c = on_ok_weaker c.write.result (λ said. simp append_assoc said) c.write.ensures.bytes

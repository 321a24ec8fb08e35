use Rattle.std.proofs.Common.{append_assoc}
use Rattle.std.proofs.lemmas.Result.{IfOk-weaker}
use Rattle.desk_json.proofs.fault_written.at_leg_json.Goals as goal

pub returns : goal.returns
returns c = IfOk-weaker c.format.result _ _ (λ text said. simp append_assoc said) c.format.ensures.ok

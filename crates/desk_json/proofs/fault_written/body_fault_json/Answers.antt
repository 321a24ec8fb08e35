use Rattle.std.proofs.Common.{append_assoc}
use Rattle.std.proofs.lemmas.Result.{IfOk-weaker}
use Rattle.desk_json.proofs.fault_written.body_fault_json.Goals as goal

pub returns-in-NoJson : goal.returns-in-NoJson
returns-in-NoJson c =
    rw c.in-NoJson.is (IfOk-weaker c.format.result _ _ (λ text said. simp append_assoc said) c.format.ensures.ok)

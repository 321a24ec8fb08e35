use Rattle.std.proofs.Common.{append_assoc}
use Rattle.std.proofs.lemmas.Result.{IfOk-weaker}
use Rattle.desk_json.proofs.outcome.outcome_json.Goals as goal

pub returns-in-Placed : goal.returns-in-Placed
returns-in-Placed c =
    rw c.in-Placed.is (IfOk-weaker c.format.result _ _ (λ text said. simp append_assoc said) c.format.ensures.ok)

pub returns-in-Again : goal.returns-in-Again
returns-in-Again c =
    rw c.in-Again.is (IfOk-weaker c.format-in-Again.result _ _ (λ text said. simp append_assoc said)
    c.format-in-Again.ensures.ok)

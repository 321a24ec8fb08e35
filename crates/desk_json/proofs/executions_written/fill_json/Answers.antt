use Rattle.std.proofs.Common.{append_assoc}
use Rattle.std.proofs.lemmas.Result.{IfOk-weaker}
use Rattle.desk_json.proofs.executions_written.fill_json.Goals as goal

pub returns : goal.returns
returns c =
    IfOk-weaker c.format.result _ _
    (λ text said. rw said (rw (c.shares-shares.ensures.value, c.in_ok-price.ensures, c.px.ensures.value) (simp append_assoc)))
    c.format.ensures.ok

use Rattle.std.proofs.Common.{◌≡◌, ℕ, List, ◌++◌, ap, ◌∙◌, append_assoc, codes}
use Rattle.std.specs.Prelude.{decimal}
use Rattle.std.proofs.lemmas.Result.{IfOk-weaker}
use Rattle.desk_json.specs.Executions.{execution_json}
use Rattle.desk_json.proofs.event.event_text.Goals as goal

-- a text in pieces
pieces : (a b c d e : List ℕ) → a ++ (b ++ (c ++ (d ++ e))) ≡ (((a ++ b) ++ c) ++ d) ++ e
pieces a b c d e = simp append_assoc

pub returns-in_ok-json-in-Execution : goal.returns-in_ok-json-in-Execution
returns-in_ok-json-in-Execution c =
    let id = codes "id: " in
    let number = decimal c.in-Execution.execution.number in
    let name = codes "\nevent: execution\ndata: " in
    let end = codes "\n\n" in
    rw c.in-Execution.is
    (IfOk-weaker c.format-in-Execution.result _ _
    (λ text said. said ∙ ap (λ json. id ++ (number ++ (name ++ (json ++ end)))) c.in_ok-json-in-Execution.ensures
    ∙ pieces id number name (execution_json c.in-Execution.execution) end)
    c.format-in-Execution.ensures.ok)

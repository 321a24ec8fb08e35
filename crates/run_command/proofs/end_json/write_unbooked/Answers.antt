use Rattle.std.proofs.Common.{◌≡◌, ℕ, List, [], ◌∷◌, ◌++◌, ap, ◌∙◌}
use Rattle.std.specs.Prelude.{string_bytes}
use Rattle.run_command.specs.JsonText.{unbooked_line}
use Rattle.run_command.proofs.Lines.{line_more}
use Rattle.run_command.proofs.end_json.write_unbooked.Goals as goal

pub loop-execution-preserved : goal.loop-execution-preserved
loop-execution-preserved c =
    let before = string_bytes c.loop-execution.text in
    let wrote : string_bytes c.write.new.self ≡ before ++ (string_bytes c.in_ok-line.line ++ 10 ∷ []) =
    c.in_ok-write.ensures.bytes in
    line_more unbooked_line c.args.executions.now c.loop-execution.execution-index c.execution-item.result
    (string_bytes c.args.text.now) before (string_bytes c.write.new.self) c.loop-execution-test.true c.loop-execution.invariant
    (
    wrote
    ∙ ap (λ (line : List ℕ). before ++ (line ++ 10 ∷ [])) c.in_ok-line.ensures
    ∙ ap (λ item. before ++ unbooked_line item) c.execution-item.is
    )

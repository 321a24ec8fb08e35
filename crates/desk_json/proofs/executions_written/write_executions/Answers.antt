use Rattle.std.proofs.Common.{rules, ◌++◌, ap, ◌∙◌}
use Rattle.std.specs.Prelude.{string_bytes}
use Rattle.desk_json.specs.Executions.{execution_json}
use Rattle.desk_json.proofs.PartedWritten.{parted_more}
use Rattle.desk_json.proofs.executions_written.write_executions.Goals as goal

pub loop-execution-preserved : goal.loop-execution-preserved
loop-execution-preserved c =
    let before = string_bytes c.loop-execution.text in
    let mark = c.loop-execution.mark.now in
    record {
      text = parted_more execution_json c.args.executions.now c.loop-execution.execution-index
          c.execution-item.result mark _ before (string_bytes c.write_execution.new.text) c.loop-execution-test.true c.loop-execution.invariant.text
          (c.in_ok-write_execution.ensures ∙ ap (λ item. (before ++ mark) ++ execution_json item) c.execution-item.is);
      utf8 = search rules;
    }

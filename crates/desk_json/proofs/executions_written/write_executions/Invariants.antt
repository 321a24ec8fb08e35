use Rattle.std.proofs.Common.{◌≡◌, [], ◌++◌, drop}
use Rattle.std.specs.Prelude.{string_bytes}
use denote.Shadow.{shadow}
use denote.Text.{Utf8}
use Rattle.desk_json.specs.Parted.{parted}
use Rattle.desk_json.specs.Executions.{execution_json}
use Rattle.desk_json.proofs.executions_written.write_executions.Given as goal

abbrev pub invariant-loop-execution : goal.invariant-loop-execution
invariant-loop-execution l = record {
  text : string_bytes l.fn.text ++ parted execution_json [] l.executions
      ≡ string_bytes l.text ++ parted execution_json l.mark (drop l.execution-index l.executions);
  utf8 : shadow (Utf8 l.mark);
}

use Rattle.std.proofs.Common.{◌≡◌, ◌++◌, take}
use Rattle.std.specs.Prelude.{string_bytes}
use Rattle.std.specs.List.{flat_map}
use Rattle.run_command.specs.JsonText.{unbooked_line}
use Rattle.run_command.proofs.end_json.write_unbooked.Given as goal

abbrev pub invariant-loop-execution : goal.invariant-loop-execution
invariant-loop-execution l = string_bytes l.text ≡ string_bytes l.initial.text ++ flat_map unbooked_line (take l.execution-index l.executions)

use Rattle.std.proofs.Common.{◌≡◌, ◌++◌, take}
use Rattle.std.specs.Prelude.{string_bytes}
use Rattle.std.specs.List.{flat_map}
use Rattle.run_command.specs.JsonText.{sweep_line}
use Rattle.run_command.proofs.end_json.write_sweeps.Given as goal

abbrev pub invariant-loop-sweep : goal.invariant-loop-sweep
invariant-loop-sweep l = string_bytes l.text ≡ string_bytes l.initial.text ++ flat_map sweep_line (take l.sweep-index l.sweeps)

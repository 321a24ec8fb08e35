use Rattle.std.proofs.Common.{◌≡◌, ◌++◌, take}
use Rattle.std.specs.Prelude.{string_bytes}
use Rattle.std.specs.List.{flat_map}
use Rattle.run_command.specs.JsonText.{doubt_line}
use Rattle.run_command.proofs.end_json.write_doubts.Given as goal

abbrev pub invariant-loop-doubt : goal.invariant-loop-doubt
invariant-loop-doubt l = string_bytes l.text ≡ string_bytes l.initial.text ++ flat_map doubt_line (take l.doubt-index l.doubts)

use Rattle.std.proofs.Common.{◌≡◌, ◌++◌, drop}
use Rattle.day_check.specs.Json.{json_text}
use Rattle.day_check.proofs.json.append_text.Given as goal

abbrev pub invariant-loop-byte : goal.invariant-loop-byte
invariant-loop-byte l = l.initial.line.items ++ json_text l.text ≡ l.line.items ++ json_text (drop l.byte-index l.text)

use Rattle.std.proofs.Common.{◌≡◌, ◌++◌, drop}
use Rattle.day_check.specs.Json.{json_line, json_members}
use Rattle.day_check.proofs.json.json_line.Given as goal

abbrev pub invariant-loop-member : goal.invariant-loop-member
invariant-loop-member l = json_line l.members ≡ l.line.items ++ json_members l.mark (drop l.member-index l.members)

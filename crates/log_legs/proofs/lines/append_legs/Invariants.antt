use Rattle.std.proofs.Common.{◌≡◌, ◌++◌}
use Rattle.log_legs.specs.LegLine.{leg_lines}
use Rattle.log_legs.proofs.lines.append_legs.Given as goal

abbrev pub invariant-loop-place : goal.invariant-loop-place
invariant-loop-place l = l.text.items ≡ l.initial.text.items ++ leg_lines l.watch l.place

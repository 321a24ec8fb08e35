use Rattle.std.proofs.Common.{◌≡◌, ◌++◌}
use Rattle.log_legs.specs.LegLine.{sweep_lines}
use Rattle.log_legs.proofs.lines.append_sweeps.Given as goal

abbrev pub invariant-loop-number : goal.invariant-loop-number
invariant-loop-number l =
    l.text.items ++ sweep_lines l.number-iterator ≡ l.initial.text.items ++ sweep_lines l.sums.by_number.entries

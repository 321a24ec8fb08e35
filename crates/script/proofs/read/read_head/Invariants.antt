use Rattle.std.proofs.Common.{◌≡◌, length}
use Rattle.schedule.specs.Script.{script_of_lines}
use Rattle.script.proofs.read.read_head.Given as goal

abbrev pub invariant-loop-line : goal.invariant-loop-line
invariant-loop-line l = script_of_lines l.lines.number l.lines.lines ≡ script_of_lines l.fn.lines.number l.fn.lines.lines

abbrev pub decreases-loop-line : goal.decreases-loop-line
decreases-loop-line l = length l.lines.lines

use Rattle.std.proofs.Common.{◌≡◌, ◌≤◌, false, true}
use Rattle.replay_command.specs.Steps.{dawn}
use Rattle.replay_command.proofs.InputRuns.{LeftToRun}
use Rattle.replay_command.proofs.StepsPrinted.{LeftToPrint}
use Rattle.replay_command.proofs.day.run_lines.Given as goal

abbrev pub invariant-loop-number : goal.invariant-loop-number
invariant-loop-number g l = record {
  left : LeftToRun l.venues (g.R.Read.remaining l.input) l.number l.course.day (g.R.Read.remaining l.initial.input) l.first l.fn.day;
  count : l.course.events ≤ l.number;
  prints : l.steps ≡ true → LeftToPrint l.venues (g.R.Read.remaining l.input) l.number l.course (g.W.Write.contents l.out)
      (g.R.Read.remaining l.initial.input) l.first (dawn l.fn.day) (g.W.Write.contents l.initial.out);
  kept : l.steps ≡ false → l.out ≡ l.initial.out;
}

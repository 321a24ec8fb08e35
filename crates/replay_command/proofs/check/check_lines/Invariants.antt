use Rattle.replay_command.proofs.InputRuns.{LeftToCheck}
use Rattle.replay_command.proofs.check.check_lines.Given as goal

abbrev pub invariant-loop-number : goal.invariant-loop-number
invariant-loop-number g l =
    LeftToCheck l.venues (g.R.Read.remaining l.input) l.number (g.R.Read.remaining l.initial.input) l.first

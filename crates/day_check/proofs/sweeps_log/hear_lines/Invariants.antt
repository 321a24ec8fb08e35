use Rattle.day_check.proofs.LinesRead.{HeardSoFar}
use Rattle.day_check.proofs.sweeps_log.hear_lines.Given as goal

abbrev pub invariant-loop-number : goal.invariant-loop-number
invariant-loop-number g l =
    HeardSoFar (g.R.Read.remaining l.initial.input) (g.R.Read.remaining l.input) l.number l.initial.desk l.desk

use Rattle.day_check.specs.LogCheck.{log_parts}
use Rattle.day_check.specs.LogText.{style_of}
use Rattle.day_check.proofs.LinesRead.{CheckedSoFar}
use Rattle.day_check.proofs.checked_log.check_lines.Given as goal

abbrev pub invariant-loop-number : goal.invariant-loop-number
invariant-loop-number g l =
    CheckedSoFar (style_of l.printing) l.printing.is_json (g.R.Read.remaining l.initial.input) (g.R.Read.remaining l.input)
    (g.W.Write.contents l.initial.out) (g.W.Write.contents l.out) l.number (log_parts l.log)

use Rattle.std.proofs.Common.{◌≡◌, false}
use Rattle.day_check.specs.Finding.{summary_upto}
use Rattle.day_check.proofs.finding.summary.Given as goal

abbrev pub invariant-loop-place : goal.invariant-loop-place
invariant-loop-place l =
    l.printing.is_json ≡ false → l.text.items ≡ summary_upto l.printing.words.now l.tallies l.place

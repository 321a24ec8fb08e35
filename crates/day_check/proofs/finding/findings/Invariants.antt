use Rattle.std.proofs.Common.{◌≡◌, false}
use Rattle.day_check.specs.Finding.{findings_upto}
use Rattle.day_check.proofs.finding.findings.Given as goal

abbrev pub invariant-loop-place : goal.invariant-loop-place
invariant-loop-place l =
    l.printing.is_json ≡ false
    → l.text.items ≡ findings_upto l.printing.words.now l.printing.form.now l.number l.line l.verdicts l.place

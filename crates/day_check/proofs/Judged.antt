-- A message that was judged is counted and told.
use Rattle.std.proofs.Common.{◌≡◌, ℕ, Bool, List, Result, Ok, Err, ap}
use Rattle.log_rules.specs.declared.tally.Tally.{Tally}
use Rattle.log_rules.specs.declared.verdict.Verdict.{Verdict}
use Rattle.log_text.specs.declared.fault.LineFault.{LineFault}
use Rattle.day_rules.specs.VenueDay.{VenueParts}
use Rattle.day_check.specs.Finding.{findings_upto}
use Rattle.day_check.specs.Judge.{ChecksAs, Judges, Told}
use Rattle.day_check.specs.LogChecked.{LogParts, entry_checked}
use Rattle.day_check.specs.LogText.{Style, entry_findings}
use Rattle.day_check.specs.Tallies.{tallied_upto}
use Rattle.day_check.specs.declared.execution_counts.ExecutionCounts.{ExecutionCounts}

pub counted : (number : ℕ) (entry : Result Told LineFault) (log : LogParts) (day : VenueParts)
    (tallies between : List Tally) (own : Bool) (executions : ExecutionCounts) (said : List Verdict) → Judges number entry log.day day (Ok said)
    → tallies ≡ tallied_upto 22 said between → between ≡ log.tallies → own ≡ log.is_own
    → executions ≡ log.executions
    → record { day = day; tallies = tallies; is_own = own; executions = executions } ≡ entry_checked number entry log
counted number (Err fault) log day tallies between own executions said judges is same still kept = absurd judges
counted number (Ok entry) log day tallies between own executions said judges is same still kept = cc

pub told : (s : Style) (number : ℕ) (line : List ℕ) (entry : Result Told LineFault) (old day : VenueParts)
    (said : List Verdict) → Judges number entry old day (Ok said)
    → findings_upto s.words s.form number line said 22 ≡ entry_findings s number line entry old
told s number line (Err fault) old day said judges = absurd judges
told s number line (Ok entry) old day said judges =
    ap (λ (vs : List Verdict). findings_upto s.words s.form number line vs 22) judges.0

pub as_judged : (number : ℕ) (entry : Result Told LineFault) (old day : VenueParts) (said : List Verdict)
    → Judges number entry old day (Ok said) → ChecksAs number entry old day
as_judged number (Err fault) old day said judges = absurd judges
as_judged number (Ok entry) old day said judges = judges.1

use Rattle.std.proofs.Common.{◌≡◌, false}
use Rattle.day_check.specs.DayText.{sweeps_upto}
use Rattle.day_check.proofs.print_day.sweeps_text.Given as goal

abbrev pub invariant-loop-place : goal.invariant-loop-place
invariant-loop-place l =
    l.printing.is_json ≡ false → l.text.items ≡ sweeps_upto l.venues l.desk.intake.sweeps l.place

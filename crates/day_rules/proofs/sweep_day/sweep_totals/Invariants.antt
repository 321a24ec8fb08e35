use Rattle.std.proofs.Common.{◌≡◌, ◌+◌, drop}
use Rattle.day_rules.specs.Sweeps.{legs_totals, sweep_totals}
use Rattle.day_rules.proofs.sweep_day.sweep_totals.Given as goal

abbrev pub invariant-loop-place : goal.invariant-loop-place
invariant-loop-place l =
    legs_totals l.venues l.sweep (l.place + 1) (drop l.place l.legs) l.sums ≡ sweep_totals l.venues l.sweep l.legs

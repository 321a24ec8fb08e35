use Rattle.std.proofs.Common.{◌≡◌}
use Rattle.day_rules.specs.Orders.{first_failing}
use Rattle.day_rules.specs.Sweeps.{is_even_at}
use Rattle.day_rules.proofs.sweep_day.first_uneven.Given as goal

abbrev pub invariant-loop-place : goal.invariant-loop-place
invariant-loop-place l = l.found ≡ first_failing (is_even_at l.venues l.sweeps) l.place

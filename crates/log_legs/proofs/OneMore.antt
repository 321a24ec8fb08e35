-- One order more.
use Rattle.std.proofs.Common.{◌≡◌, ℕ, suc, ◌+◌, List, ◌++◌, ap, add-one}
use Rattle.log_legs.specs.Fate.{leg_said}
use Rattle.log_legs.specs.LegLine.{leg_lines, line_if, sums_if, sums_of}
use Rattle.log_legs.specs.Legs.{WatchParts}
use Rattle.log_legs.specs.declared.sweep_sums.SweepTotals.{SweepTotals}

pub one_line_more : (w : WatchParts) (n : ℕ) → leg_lines w (n + 1) ≡ leg_lines w n ++ line_if (leg_said w n)
one_line_more w n = ap (leg_lines w) (add-one n)

pub one_sum_more : (w : WatchParts) (n : ℕ) → sums_of w (n + 1) ≡ sums_if (leg_said w n) (sums_of w n)
one_sum_more w n = ap (sums_of w) (add-one n)

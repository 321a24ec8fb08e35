use Rattle.std.proofs.Common.{◌≡◌, filter_map}
use Rattle.desk_serve.specs.Shown.{row_of}
use Rattle.desk_serve.proofs.shown.leg_rows.Given as goal

abbrev pub invariant-loop-leg : goal.invariant-loop-leg
invariant-loop-leg l = l.rows.items ≡ filter_map (row_of l.names) l.yielded

use Rattle.std.proofs.Common.{◌≡◌}
use Rattle.serde_json.specs.View.{items_view}
use Rattle.desk_json.specs.Sweep.{legs_in}
use Rattle.desk_json.proofs.LegsRead.{left_at, onto}
use Rattle.desk_json.proofs.sweep_in.legs_in.Given as goal

abbrev pub invariant-loop-i : goal.invariant-loop-i
invariant-loop-i l = onto l.legs.items (left_at l.names l.values l.i) ≡ legs_in l.names 1 (items_view l.values)

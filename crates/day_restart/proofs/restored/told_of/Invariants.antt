use Rattle.std.proofs.Common.{◌≡◌, length, take}
use Rattle.std.specs.Prelude.{sum_by}
use Rattle.day_restart.specs.Restored.{up_to_most}
use Rattle.day_restart.proofs.restored.told_of.Given as goal

abbrev pub invariant-loop-start : goal.invariant-loop-start
invariant-loop-start g l = record {
  taken : l.taken ≡ up_to_most (sum_by (λ s. length s.took.taken) (take l.start-index l.starts));
  booked : l.booked ≡ up_to_most (sum_by (λ s. s.counted) (take l.start-index l.starts));
}

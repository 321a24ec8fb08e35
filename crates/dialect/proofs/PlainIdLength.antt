-- How long the parts of a leg's number are in Plain.
use Rattle.std.proofs.Common.{◌≤◌, length, decimal, arith}
use Rattle.fix_tags.proofs.Written.{length-decimal}
use Rattle.leg.specs.LegId.{LegIdParts, IsLegId}

pub sweep_is_short : (id : LegIdParts) → IsLegId id → length (decimal id.sweep) ≤ 12
sweep_is_short id range = length-decimal 12 id.sweep (omega arith) (omega (arith, range.sweep_high)) (omega (arith, range.sweep_high))

pub place_is_short : (id : LegIdParts) → IsLegId id → length (decimal id.place) ≤ 2
place_is_short id range = length-decimal 2 id.place (omega arith) (omega (arith, range.place_high)) (omega (arith, range.place_high))

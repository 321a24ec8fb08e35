use Rattle.std.proofs.Common.{◌≡◌}
use Rattle.live_load.proofs.caller.places.Given as goal

abbrev pub invariant-loop : goal.invariant-loop
invariant-loop g l = record {
  parts : l.seat.parts ≡ l.fn.seat.parts;
  shares : l.seat.shares ≡ l.fn.seat.shares;
}

use Rattle.std.proofs.Common.{◌≡◌, ◌+◌, ◌*◌, ◌≤◌}
use Rattle.live_load.specs.Day.{shares_each}
use Rattle.live_load.proofs.caller.call.Given as goal

abbrev pub invariant-loop : goal.invariant-loop
invariant-loop g l = record {
  parts : l.seat.parts ≡ l.fn.seat.parts;
  few : l.unplaced ≤ l.counter;
  shares : l.seat.shares + l.unplaced * shares_each l.plan ≡ l.fn.seat.shares + l.counter * shares_each l.plan;
}

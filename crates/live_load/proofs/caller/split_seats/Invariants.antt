use Rattle.std.proofs.Common.{◌≡◌, ◌+◌, length, All}
use Rattle.exec_collector.specs.Seats.{Seat, parts_of}
use Rattle.live_load.proofs.caller.split_seats.Given as goal

abbrev pub invariant-loop : goal.invariant-loop
invariant-loop g l = record {
  whole : parts_of l.seats.items + l.seat.parts ≡ 1024;
  left : l.seat.parts + l.counter ≡ 1025;
  as_many : length l.seats.items + 1 ≡ l.counter;
  none : l.seat.shares ≡ 0;
  new : All (λ (s : Seat). s.shares ≡ 0) l.seats.items;
}

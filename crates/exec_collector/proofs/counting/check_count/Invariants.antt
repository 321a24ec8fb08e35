use Rattle.std.proofs.Common.{◌≡◌, ◌+◌, vec_len}
use Rattle.std.specs.List.{All}
use Rattle.exec_collector.specs.Booked.{IsKept}
use Rattle.exec_collector.specs.Seats.{parts_of, shares_of}
use Rattle.exec_collector.specs.Unbooked.{WereUnbooked}
use Rattle.exec_collector.proofs.counting.check_count.Given as goal

abbrev pub invariant-loop-seat : goal.invariant-loop-seat
invariant-loop-seat g l =
    (parts_of l.seats.items + l.all.parts ≡ parts_of l.fn.seats.items)
    × (shares_of l.seats.items + l.all.shares ≡ shares_of l.fn.seats.items)
    × (l.counted ≡ l.fn.counted)
    × (All (IsKept l.fn.counted.book) l.seats.items → All (IsKept l.fn.counted.book) l.fn.seats.items)
    × (All (WereUnbooked l.fn.counted.unbooked) l.seats.items
    → All (WereUnbooked l.fn.counted.unbooked) l.fn.seats.items)

abbrev pub decreases-loop-seat : goal.decreases-loop-seat
decreases-loop-seat g l = vec_len l.seats

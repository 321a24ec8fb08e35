use Rattle.std.proofs.Common.{◌≡◌, ◌+◌, ◌≤◌, length, vec_capacity}
use Rattle.exec_collector.proofs.Opening.{HasOpened}
use Rattle.exec_collector.proofs.collector.Collector.new.Given as goal

abbrev pub invariant-loop-list : goal.invariant-loop-list
invariant-loop-list g l =
    HasOpened g.M.Accounts.lists l.venues l.bookings.items l.lists.items l.seats.items
    × (l.whole.parts ≡ length l.lists.items) × (l.whole.amount ≡ 0)
    × (length l.bookings.items + length l.lists.items ≡ l.venues)
    × (l.venues ≤ vec_capacity l.bookings) × (l.venues ≤ vec_capacity l.seats)

abbrev pub decreases-loop-list : goal.decreases-loop-list
decreases-loop-list g l = length l.lists.items

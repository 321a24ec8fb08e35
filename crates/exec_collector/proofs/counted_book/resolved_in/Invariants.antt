use Rattle.std.proofs.Common.{◌≡◌}
use Rattle.share_ledger.specs.Book.{venue_resolved}
use Rattle.exec_collector.specs.Resolved.{sum_below}
use Rattle.exec_collector.proofs.counted_book.resolved_in.Given as goal

abbrev pub invariant-loop-number : goal.invariant-loop-number
invariant-loop-number l = l.shares ≡ sum_below (venue_resolved l.book) l.number

use Rattle.std.proofs.Common.{◌≡◌, length, drop}
use Rattle.share_ledger.specs.Book.{new_book, replay}
use Rattle.world_restart.specs.Start.{venue_entries, book_entries}
use Rattle.replay.proofs.book_again.book_again.Given as goal

abbrev pub invariant-loop-number : goal.invariant-loop-number
invariant-loop-number g l = replay l.book (venue_entries l.world l.number (drop l.number l.world.venues))
    ≡ replay (new_book (length l.world.venues)) (book_entries l.world)

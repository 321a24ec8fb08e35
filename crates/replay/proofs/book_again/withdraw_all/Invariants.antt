use Rattle.std.proofs.Common.{◌≡◌, map}
use Rattle.share_ledger.specs.declared.book_entry.BookEntry.TheVariants.{Withdrawn}
use Rattle.share_ledger.specs.Book.{replay}
use Rattle.schedule.specs.World.{withdrawn_ids}
use Rattle.replay.proofs.BookAgain.{ids_left}
use Rattle.replay.proofs.book_again.withdraw_all.Given as goal

abbrev pub invariant-loop-at : goal.invariant-loop-at
invariant-loop-at g l = replay l.book (map Withdrawn (ids_left l.world l.venue l.at))
    ≡ replay l.initial.book (map Withdrawn (withdrawn_ids l.world l.venue))

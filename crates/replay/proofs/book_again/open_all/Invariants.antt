use Rattle.std.proofs.Common.{◌≡◌, drop}
use Rattle.share_ledger.specs.Book.{replay}
use Rattle.sweep_release.specs.Kept.{released_sweeps}
use Rattle.replay.proofs.BookAgain.{openings}
use Rattle.replay.proofs.book_again.open_all.Given as goal

abbrev pub invariant-loop-entry : goal.invariant-loop-entry
invariant-loop-entry l = replay l.book (openings (released_sweeps (drop l.entry-index l.history)))
    ≡ replay l.initial.book (openings (released_sweeps l.history))

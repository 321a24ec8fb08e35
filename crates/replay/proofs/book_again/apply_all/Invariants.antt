use Rattle.std.proofs.Common.{◌≡◌, drop, map}
use Rattle.share_ledger.specs.declared.book_entry.BookEntry.TheVariants.{Moved}
use Rattle.share_ledger.specs.Book.{replay}
use Rattle.replay.proofs.book_again.apply_all.Given as goal

abbrev pub invariant-loop-note : goal.invariant-loop-note
invariant-loop-note l = replay l.book (map (Moved l.venue) (drop l.note-index l.notes))
    ≡ replay l.initial.book (map (Moved l.venue) l.notes)

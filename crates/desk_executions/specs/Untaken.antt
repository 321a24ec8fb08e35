-- Why the book didn't take a note.
use Rattle.std.specs.Prelude.{ℕ, List, Option, Some, None, codes}
use Rattle.dialect.specs.declared.note.Note.{Note}
use Rattle.dialect.specs.declared.note.Note.TheVariants as note
use Rattle.share_ledger.specs.declared.applied.Applied.{Applied}
use Rattle.share_ledger.specs.declared.applied.Applied.TheVariants as applied
use Rattle.desk_executions.specs.declared.untaken.Untaken.{Untaken}
use Rattle.desk_executions.specs.declared.untaken.Untaken.TheVariants.{Duplicate, Overfill, Stray, Unread}

-- why a note is a stray: it can't be read, or it is on nothing that it could move
abbrev pub stray_for : Note → Untaken
stray_for (note.Report report) = Stray
stray_for (note.Refused id) = Stray
stray_for (note.Unread fault) = Unread

-- why a note wasn't taken that the book answered so; none where it was
abbrev pub untaken : Note → Applied → Option Untaken
untaken note applied.Moved = None
untaken note applied.Duplicate = Some Duplicate
untaken note applied.Overfill = Some Overfill
untaken note applied.Stray = Some (stray_for note)

-- as a word
abbrev pub untaken_text : Untaken → List ℕ
untaken_text Duplicate = codes "duplicate"
untaken_text Overfill = codes "overfill"
untaken_text Stray = codes "stray"
untaken_text Unread = codes "unread"

-- What is kept beside the counted book.
use Rattle.std.specs.Prelude.{◌≡◌, ℕ, List, length, Option, None}
use Rattle.leg.specs.LegId.{LegIdParts}
use Rattle.leg_worth.specs.Kept.{AreWorths, worth_at, fill_at}
use Rattle.leg_worth.specs.declared.change.WorthChange.{WorthChange}
use Rattle.share_ledger.specs.declared.applied.Applied.{Applied}
use Rattle.share_ledger.specs.declared.applied.Applied.TheVariants as applied
use Rattle.exec_collector.specs.declared.beside.Beside.{Beside}
use Rattle.exec_collector.specs.Day.{AreDisputed, disputed_at, note_count}
use Rattle.exec_collector.specs.Unbooked.{CountedParts}

-- a change is made where the book took the note
abbrev pub change_if : Applied → Option WorthChange → Option WorthChange
change_if applied.Moved change = change
change_if applied.Duplicate change = None
change_if applied.Overfill change = None
change_if applied.Stray change = None

-- the same is kept of legs and trades, and as much is disputed
pub record SameBeside (before after : Beside) : Type 0 where
  pub legs : (id : LegIdParts) → worth_at after.worths id ≡ worth_at before.worths id
  pub trades : (id : LegIdParts) (exec : List ℕ) → fill_at after.worths id exec ≡ fill_at before.worths id exec
  pub disputed : (id : LegIdParts) → disputed_at after.disputed id ≡ disputed_at before.disputed id

-- what is kept beside what is counted: words for each note, what was paid in each leg of its book, and the shares that
-- are disputed of each
pub record IsBeside (counted : CountedParts) (beside : Beside) : Type 0 where
  pub words : length beside.words ≡ note_count counted
  pub worths : AreWorths counted.book beside.worths
  pub disputed : AreDisputed counted.unbooked beside.disputed

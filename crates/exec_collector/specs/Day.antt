-- What stands under the lock beside the book: what exchanges said in words, and the shares of the trades that the book
-- didn't take.
use Rattle.std.specs.Prelude.{◌≡◌, ℕ, zero, suc, ◌+◌, List, [], ◌∷◌, length, sum_by, unwrap_or, ◌==◌, min, Bool, true, false, if◌then◌else◌}
use Rattle.std.specs.HashMap as table
use Rattle.leg.specs.LegId.{LegIdParts}
use Rattle.leg_worth.specs.Kept.{leg_eq}
use Rattle.dialect.specs.declared.note.Note.{Note}
use Rattle.dialect.specs.declared.note.Note.TheVariants as note
use Rattle.dialect.specs.declared.report.ReportKind.{ReportKind}
use Rattle.dialect.specs.declared.report.ReportKind.TheVariants.{New, Trade, Canceled, Rejected, Expired, Bust}
use Rattle.report_words.specs.declared.report_words.ReportWords.{ReportWords}
use Rattle.share_ledger.specs.declared.applied.Applied.{Applied}
use Rattle.share_ledger.specs.declared.applied.Applied.TheVariants as applied
use Rattle.share_ledger.specs.declared.book_entry.BookEntry.{BookEntry}
use Rattle.share_ledger.specs.declared.book_entry.BookEntry.TheVariants.{Opened, Withdrawn, Moved}
use Rattle.share_ledger.specs.Entries.{is_same_leg}
use Rattle.exec_collector.specs.declared.disputed.Disputed.{Disputed}
use Rattle.exec_collector.specs.declared.unbooked.Unbooked.{Unbooked}
use Rattle.exec_collector.specs.Unbooked.{CountedParts, KeptCounted}

-- what is counted, and the words of each note, in the order in which the notes were given
pub record DayParts : Type 0 where
  pub counted : KeptCounted
  pub words : List ReportWords

-- how many notes a history has
abbrev pub notes_written : List BookEntry → ℕ
notes_written [] = 0
notes_written (Opened sweep ∷ entries) = notes_written entries
notes_written (Withdrawn id ∷ entries) = notes_written entries
notes_written (Moved venue note ∷ entries) = suc (notes_written entries)

-- how many were given: those that the book has and those that it didn't take
abbrev pub note_count : CountedParts → ℕ
note_count counted = notes_written counted.book.entries + length counted.unbooked

-- whether a trade that was answered so is disputed: the book didn't take it, and has none under its id
abbrev pub is_disputed : Applied → Bool
is_disputed applied.Moved = false
is_disputed applied.Duplicate = false
is_disputed applied.Overfill = true
is_disputed applied.Stray = true

-- the shares of a trade
abbrev pub shares_of_kind : ReportKind → ℕ
shares_of_kind New = 0
shares_of_kind (Trade fill) = fill.shares
shares_of_kind Canceled = 0
shares_of_kind Rejected = 0
shares_of_kind Expired = 0
shares_of_kind (Bust cancelled_id) = 0

-- those that a note says were traded on a leg
abbrev pub shares_told : LegIdParts → Note → ℕ
shares_told id (note.Report report) = if is_same_leg report.id id then shares_of_kind report.kind else 0
shares_told id (note.Refused leg) = 0
shares_told id (note.Unread fault) = 0

-- those of a note that was answered so
abbrev pub disputed_by : LegIdParts → Note → Applied → ℕ
disputed_by id note answer = if is_disputed answer then shares_told id note else 0

-- the shares of a leg that its exchange says were traded and that the book didn't take. They are none of the leg's five
-- parts
abbrev pub disputed : LegIdParts → List Unbooked → ℕ
disputed id unbooked = sum_by (λ item. disputed_by id item.note item.answer) unbooked

-- more shares are added to a number, up to the greatest one of its type
abbrev pub added : ℕ → ℕ → ℕ
added kept more = if more == 0 then kept else min (kept + more) 18446744073709551615

-- what is kept of a leg, up to the greatest number of its type
abbrev pub disputed_at : Disputed → LegIdParts → ℕ
disputed_at kept id = unwrap_or (table.get leg_eq kept.legs (id.sweep, id.place)) 0

-- what is disputed of the legs at the first places of a sweep, each of which has these shares, up to the greatest
-- number of the type
abbrev pub disputed_below : (LegIdParts → ℕ) → ℕ → ℕ → ℕ
disputed_below shares number zero = 0
disputed_below shares number (suc places) =
    min (disputed_below shares number places + shares (record { sweep = number; place = suc places }))
    18446744073709551615

abbrev pub AreDisputed : List Unbooked → Disputed → Type 0
AreDisputed unbooked kept = (id : LegIdParts) → disputed_at kept id ≡ min (disputed id unbooked) 18446744073709551615

-- The executions of a day: what exchanges said, in the order of the book, each with the book's answer.
use Rattle.std.specs.Prelude.{◌≡◌, ℕ, suc, ◌-◌, ◌≤◌, Bool, true, false, List, [], ◌∷◌, ◌++◌, length, map, take, drop, filter, filter_map, Option, Some, None, option_map, option_and_then, slice_get, unwrap_or, Result, IfOk, IfSome}
use Rattle.std.specs.List.{All}
use Rattle.std.specs.declared.alloc.AllocError.{AllocError}
use Rattle.share_ledger.specs.declared.applied.Applied.{Applied}
use Rattle.share_ledger.specs.declared.applied.Applied.TheVariants as applied
use Rattle.share_ledger.specs.declared.book_entry.BookEntry.{BookEntry}
use Rattle.share_ledger.specs.declared.book_entry.BookEntry.TheVariants.{Opened, Withdrawn, Moved}
use Rattle.exec_collector.specs.Resolved.{Replays}
use Rattle.exec_collector.specs.Unbooked.{CountedParts, IsListOf}
use Rattle.exec_collector.specs.declared.unbooked.Unbooked.{Unbooked}
use Rattle.day_executions.specs.declared.heard.Heard.{Heard}
use Rattle.day_executions.specs.declared.heard.HeardNote.{HeardNote}
use Rattle.day_executions.specs.declared.place.Place.{Place}
use Rattle.day_executions.specs.declared.place.Place.TheVariants as place
use Rattle.day_executions.specs.declared.lent.LentNotes.{LentNotes}
use Rattle.day_executions.specs.declared.lent.SaidNote.{SaidNote}
use Rattle.exec_collector.specs.Day.{note_count}
use Rattle.report_words.specs.Said.{no_words}
use Rattle.report_words.specs.declared.report_words.ReportWords.{ReportWords}

-- what an exchange said by an entry of the book's history, if that is a note
abbrev pub booked : BookEntry → Option Heard
booked (Opened sweep) = None
booked (Withdrawn id) = None
booked (Moved venue note) = Some (record { venue = venue; note = note; answer = applied.Moved })

-- what an exchange said that the book didn't take
abbrev pub left : Unbooked → Heard
left item = record { venue = item.venue; note = item.note; answer = item.answer }

-- what was heard behind so many entries, of which these come next: what the book didn't take stands behind as many
-- entries as it had then
abbrev pub heard_behind : ℕ → List BookEntry → List Unbooked → List Heard
heard_behind entries history [] = filter_map booked history
heard_behind entries history (item ∷ items) =
    filter_map booked (take (item.entries - entries) history)
    ++ left item ∷ heard_behind item.entries (drop (item.entries - entries) history) items

-- what was heard in a day, by the history of its book and the list of what that didn't take
abbrev pub heard : List BookEntry → List Unbooked → List Heard
heard history unbooked = heard_behind 0 history unbooked

-- these under numbers: the first has this one, and each other the next one
abbrev pub numbered_from : ℕ → List Heard → List HeardNote
numbered_from number [] = []
numbered_from number (said ∷ rest) = record { number = number; heard = said } ∷ numbered_from (suc number) rest

-- what was heard under a number, if it was
abbrev pub numbered : ℕ → Option Heard → Option HeardNote
numbered number said = option_map (λ heard. record { number = number; heard = heard }) said

-- the executions behind a number, at most so many
abbrev pub notes_behind : ℕ → ℕ → List BookEntry → List Unbooked → List HeardNote
notes_behind after most history unbooked = take most (drop after (numbered_from 1 (heard history unbooked)))

-- whether the book didn't take what it answered so
abbrev pub not_taken : Applied → Bool
not_taken applied.Moved = false
not_taken applied.Duplicate = true
not_taken applied.Overfill = true
not_taken applied.Stray = true

-- the executions behind a number that the book didn't take
abbrev pub untaken_behind : ℕ → List BookEntry → List Unbooked → List HeardNote
untaken_behind after history unbooked =
    filter (λ note. not_taken note.heard.answer) (drop after (numbered_from 1 (heard history unbooked)))

-- what stands at a place
abbrev pub found : List BookEntry → List Unbooked → Place → Option Heard
found history unbooked (place.Booked at) = option_and_then booked (slice_get history at)
found history unbooked (place.Left at) = option_map left (slice_get unbooked at)

-- what was heard stands at some place
pub record IsHeard (history : List BookEntry) (unbooked : List Unbooked) (note : HeardNote) : Type 0 where
  pub at : Place
  pub stands : found history unbooked at ≡ Some note.heard

-- and the book didn't take it
pub record IsLeft (history : List BookEntry) (unbooked : List Unbooked) (note : HeardNote) : Type 0 where
  pub heard : IsHeard history unbooked note
  pub left : not_taken note.heard.answer ≡ true

-- each of these stands behind as many entries as the one in front of it, or more: behind so many at least, and so many
-- at most
abbrev pub AreInOrder : ℕ → ℕ → List Unbooked → Type 0
AreInOrder least most [] = Unit {0}
AreInOrder least most (item ∷ items) =
    (least ≤ item.entries) × (item.entries ≤ most) × AreInOrder item.entries most items

-- at these places stands what was heard by the first so many entries of a history and the first so many notes that
-- weren't taken; the others of both came later
pub record IsIndex (entries items : ℕ) (places : List Place) (history : List BookEntry) (unbooked : List Unbooked)
    : Type 0 where
  pub within : entries ≤ length history
  pub among : items ≤ length unbooked
  pub before : AreInOrder 0 entries (take items unbooked)
  pub behind : AreInOrder entries (length history) (drop items unbooked)
  pub are : map (found history unbooked) places
      ≡ map (λ said. Some said) (heard (take entries history) (take items unbooked))

-- what was heard, with the words of a day that were kept under its number: the first under 1
abbrev pub said_by : List ReportWords → HeardNote → SaidNote
said_by words note = record { note = note; words = unwrap_or (slice_get words (note.number - 1)) no_words }

-- lent are those behind a number, at most so many, each with its words, and the number of the last one of all
pub record IsLent (after most : ℕ) (history : List BookEntry) (unbooked : List Unbooked) (words : List ReportWords)
    (lent : LentNotes) : Type 0 where
  pub notes : lent.notes.items ≡ map (said_by words) (notes_behind after most history unbooked)
  pub last : lent.last ≡ length (heard history unbooked)

-- lent are those behind a number that the book didn't take, each with its words, and the number of the last one of all
pub record AreUntaken (after : ℕ) (history : List BookEntry) (unbooked : List Unbooked) (words : List ReportWords)
    (lent : LentNotes) : Type 0 where
  pub notes : lent.notes.items ≡ map (said_by words) (untaken_behind after history unbooked)
  pub last : lent.last ≡ length (heard history unbooked)

-- a note is told of a day, with the words that were kept under its number
pub record TellsOf (tells : List BookEntry → List Unbooked → HeardNote → Type 0) (history : List BookEntry)
    (unbooked : List Unbooked) (words : List ReportWords) (said : SaidNote) : Type 0 where
  pub note : tells history unbooked said.note
  pub is : said ≡ said_by words said.note

-- a look at a day, by what earlier looks found: each note that is lent is told of the day in any case, and this is lent
-- where that is an index of it
pub record Looks (tells : List BookEntry → List Unbooked → HeardNote → Type 0)
    (lends : List BookEntry → List Unbooked → List ReportWords → LentNotes → Type 0) (history : List BookEntry)
    (unbooked : List Unbooked) (words : List ReportWords) (result : Result (Option LentNotes) AllocError) : Type 0 where
  pub entries : ℕ
  pub items : ℕ
  pub places : List Place
  pub told : IfOk result (λ lent. IfSome lent (λ notes. All (TellsOf tells history unbooked words) notes.notes.items))
  pub lent : IsIndex entries items places history unbooked
      → IfOk result (λ lent. IfSome lent (lends history unbooked words))

-- each note that is lent is told of a book that replays, with the list of what it didn't take and as many words as both
-- have notes, and this is lent of them where what earlier looks found is an index
pub record IsNow (tells : List BookEntry → List Unbooked → HeardNote → Type 0)
    (lends : List BookEntry → List Unbooked → List ReportWords → LentNotes → Type 0) (notes : LentNotes) : Type 0 where
  pub day : CountedParts
  pub replays : Replays day.book
  pub list : IsListOf day.book day.unbooked
  pub words : List ReportWords
  pub one_each : length words ≡ note_count day
  pub entries : ℕ
  pub items : ℕ
  pub places : List Place
  pub told : All (TellsOf tells day.book.entries day.unbooked words) notes.notes.items
  pub lent : IsIndex entries items places day.book.entries day.unbooked
      → lends day.book.entries day.unbooked words notes

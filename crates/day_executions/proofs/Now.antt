-- What a look at a book lends is so now.
use Rattle.std.proofs.Common.{◌≡◌, ℕ, List, length, map, Option, Some, None, refl, sym, subst}
use Rattle.std.specs.Prelude.{Result, Ok, IfOk, IfSome}
use Rattle.std.specs.declared.alloc.AllocError.{AllocError}
use Rattle.std.specs.List.{All}
use Rattle.share_ledger.specs.declared.book_entry.BookEntry.{BookEntry}
use Rattle.exec_collector.specs.Resolved.{Replays}
use Rattle.exec_collector.specs.Unbooked.{CountedParts, IsListOf}
use Rattle.exec_collector.specs.declared.unbooked.Unbooked.{Unbooked}
use Rattle.exec_collector.specs.Day.{note_count}
use Rattle.report_words.specs.declared.report_words.ReportWords.{ReportWords}
use Rattle.std.proofs.lemmas.List.Elements.{All-map, All-weaker}
use Rattle.day_executions.specs.declared.heard.HeardNote.{HeardNote}
use Rattle.day_executions.specs.declared.lent.SaidNote.{SaidNote}
use Rattle.day_executions.specs.declared.lent.LentNotes.{LentNotes}
use Rattle.day_executions.specs.declared.place.Place.{Place}
use Rattle.day_executions.specs.Executions.{IsIndex, IsNow, Looks, TellsOf, said_by}

-- what a look lends of a history and of words that are the day's
pub looks_at : (tells : List BookEntry → List Unbooked → HeardNote → Type 0)
    (lends : List BookEntry → List Unbooked → List ReportWords → LentNotes → Type 0) (entries items : ℕ)
    (places : List Place) (history seen : List BookEntry) (unbooked : List Unbooked) (words kept : List ReportWords)
    (result : Result (Option LentNotes) AllocError) → seen ≡ history → kept ≡ words
    → IfOk result (λ lent. IfSome lent (λ notes. All (TellsOf tells seen unbooked kept) notes.notes.items))
    → (IsIndex entries items places seen unbooked → IfOk result (λ lent. IfSome lent (lends seen unbooked kept)))
    → Looks tells lends history unbooked words result
looks_at tells lends entries items places history seen unbooked words kept result same same_words told lent =
    subst (λ (w : List ReportWords). Looks tells lends history unbooked w result) same_words
    (subst (λ (l : List BookEntry). Looks tells lends l unbooked kept result) same
    (record { entries = entries; items = items; places = places; told = told; lent = lent }))

-- what was lent is so now
pub is_now : (tells : List BookEntry → List Unbooked → HeardNote → Type 0)
    (lends : List BookEntry → List Unbooked → List ReportWords → LentNotes → Type 0) (day : CountedParts)
    (words : List ReportWords) (found : Option LentNotes) (lent : LentNotes) → Replays day.book
    → IsListOf day.book day.unbooked → length words ≡ note_count day
    → Looks tells lends day.book.entries day.unbooked words (Ok found) → found ≡ Some lent → IsNow tells lends lent
is_now tells lends day words None lent replays list each looked is = absurd cc
is_now tells lends day words (Some there) lent replays list each looked is =
    let same : there ≡ lent = cc in
    record {
      day = day;
      replays = replays;
      list = list;
      words = words;
      one_each = each;
      entries = looked.entries;
      items = looked.items;
      places = looked.places;
      told = subst (λ (notes : LentNotes). All (TellsOf tells day.book.entries day.unbooked words) notes.notes.items) same looked.told;
      lent = λ index. subst (λ (notes : LentNotes). lends day.book.entries day.unbooked words notes) same
          (looked.lent index);
    }

-- notes that are told of a day are so with their words
pub all_said : (tells : List BookEntry → List Unbooked → HeardNote → Type 0) (history : List BookEntry)
    (unbooked : List Unbooked) (words : List ReportWords) (notes : List HeardNote) (said : List SaidNote)
    → said ≡ map (said_by words) notes → All (tells history unbooked) notes
    → All (TellsOf tells history unbooked words) said
all_said tells history unbooked words notes said is told =
    subst (λ (l : List SaidNote). All (TellsOf tells history unbooked words) l) (sym is)
    (All-map (TellsOf tells history unbooked words) (said_by words) notes
    (All-weaker (tells history unbooked) (λ note. TellsOf tells history unbooked words (said_by words note))
    (λ note heard. record { note = heard; is = refl }) notes told))

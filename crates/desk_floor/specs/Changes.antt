-- Which sweeps the entries of a book changed, and which the notes are about that it didn't take.
use Rattle.std.specs.Prelude.{ℕ, ◌+◌, List, [], ◌∷◌, ◌++◌, Option, Some, option_map, option_to_list}
use Rattle.dialect.specs.declared.note.Note.{Note}
use Rattle.exec_collector.specs.declared.unbooked.Unbooked.{Unbooked}
use Rattle.share_ledger.specs.declared.book_entry.BookEntry.{BookEntry}
use Rattle.share_ledger.specs.declared.book_entry.BookEntry.TheVariants.{Opened, Withdrawn, Moved}
use Rattle.share_ledger.specs.Entries.{leg_of_note}

-- the number of the sweep that a note is about, if it is about one
abbrev pub sweep_of : Note → Option ℕ
sweep_of note = option_map (λ id. id.sweep) (leg_of_note note)

-- that of a note that the book didn't take
abbrev pub sweep_said : Unbooked → Option ℕ
sweep_said item = sweep_of item.note

-- the number of the sweep that an entry changed, if it is about one, where so many were opened before
abbrev pub changed_by : ℕ → BookEntry → Option ℕ
changed_by before (Opened sweep) = Some (before + 1)
changed_by before (Withdrawn id) = Some id.sweep
changed_by before (Moved venue note) = sweep_of note

-- how many sweeps are opened with an entry, where so many were before
abbrev pub opened_with : ℕ → BookEntry → ℕ
opened_with before (Opened sweep) = before + 1
opened_with before (Withdrawn id) = before
opened_with before (Moved venue note) = before

-- and with entries, in order
abbrev pub opened_in : ℕ → List BookEntry → ℕ
opened_in before [] = before
opened_in before (entry ∷ entries) = opened_in (opened_with before entry) entries

-- the numbers of the sweeps that entries changed, in order, where so many were opened before
abbrev pub changed_in : ℕ → List BookEntry → List ℕ
changed_in before [] = []
changed_in before (entry ∷ entries) =
    option_to_list (changed_by before entry) ++ changed_in (opened_with before entry) entries

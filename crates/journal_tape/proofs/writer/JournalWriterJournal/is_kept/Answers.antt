use Rattle.std.proofs.Common.{◌≡◌, true, List, ℕ, [], sym, ◌∙◌}
use Rattle.journal_record.specs.Record.{lines_sum}
use Rattle.journal_tape.proofs.Lines.{none_of_length, none_told}
use Rattle.journal_tape.proofs.writer.JournalWriterJournal.is_kept.Goals as goal

pub returns : goal.returns
returns g c =
    λ is. let none : c.as_slice.result.now ≡ [] = none_of_length c.as_slice.result.now (sym c.is_empty.ensures ∙ is) in
    none_told (lines_sum 0 c.args.self.now.told.lines.kept) c.args.self.now.told.lines.unkept
    (sym (c.as_slice.ensures.value ∙ c.args.self.now.batch_is) ∙ none)

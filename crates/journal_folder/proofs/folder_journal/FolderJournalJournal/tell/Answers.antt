use Rattle.std.proofs.Common.{rules, ◌≡◌, ◌-◌, ◌++◌, ◌∷◌, [], drop, sym, ap, ◌∙◌}
use Rattle.journal_tape.specs.Told.{LinesTold}
use Rattle.journal_folder.specs.Head.{head_text}
use Rattle.journal_folder.proofs.Files.{waits_more}
use Rattle.journal_folder.proofs.folder_journal.FolderJournalJournal.tell.Goals as goal

pub invariant_of-self-in-Ok-tell-clause-next_number : goal.invariant_of-self-in-Ok-tell-clause-next_number
invariant_of-self-in-Ok-tell-clause-next_number g c = c.args.self.now.next_number

pub invariant_of-self-in-Ok-tell-clause-waiting_is : goal.invariant_of-self-in-Ok-tell-clause-waiting_is
invariant_of-self-in-Ok-tell-clause-waiting_is g c =
    let old = c.args.self.now in
    let pushed : c.push.new.self.items ≡ old.waiting.items ++ c.in-Ok.copy ∷ [] = search rules in
    let copied : c.in-Ok.copy.items ≡ c.args.line.now = search rules in
    waits_more old.waiting.items c.push.new.self.items c.in-Ok.copy old.writer.told.lines.unkept
    c.tell.new.self.told.lines.unkept c.args.line.now pushed copied old.waiting_is c.in-Ok-tell.ensures.told

pub invariant_of-self-in-Ok-tell-clause-file_has : goal.invariant_of-self-in-Ok-tell-clause-file_has
invariant_of-self-in-Ok-tell-clause-file_has g c =
    let old = c.args.self.now in
    let head = head_text old.file old.start old.place.words.now in
    c.tell.ensures.kept ∙ old.file_has
    ∙ ap (λ (t : LinesTold). head ∷ drop (old.start - old.before) t.kept) (sym c.with-self.ensures)

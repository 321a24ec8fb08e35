use Rattle.std.proofs.Common.{◌++◌, ap, ◌∙◌}
use Rattle.journal_tape.specs.Told.{LinesTold}
use Rattle.journal_folder.proofs.folder_journal.FolderJournalJournal.keep.Goals as goal

pub returns-then-keep_here-2-clause-kept : goal.returns-then-keep_here-2-clause-kept
returns-then-keep_here-2-clause-kept g c =
    let before = c.begin_next.ensures.told ∙ c.keep_here.ensures.same c.if-keep_here.false in
    ap (λ (t : LinesTold). t.kept) (c.keep_here-2.ensures.kept c.if-keep_here-2.true)
    ∙ ap (λ (t : LinesTold). t.kept ++ t.unkept) before

pub returns-then-keep_here-2-clause-none_left : goal.returns-then-keep_here-2-clause-none_left
returns-then-keep_here-2-clause-none_left g c =
    ap (λ (t : LinesTold). t.unkept) (c.keep_here-2.ensures.kept c.if-keep_here-2.true)

pub returns-clause-same : goal.returns-clause-same
returns-clause-same g c =
    let before = c.begin_next.ensures.told ∙ c.keep_here.ensures.same c.if-keep_here.false in
    ap (λ (t : LinesTold). t.kept) (c.keep_here-2.ensures.same c.if-keep_here-2.false ∙ before)

pub returns-clause-still_told : goal.returns-clause-still_told
returns-clause-still_told g c =
    let before = c.begin_next.ensures.told ∙ c.keep_here.ensures.same c.if-keep_here.false in
    ap (λ (t : LinesTold). t.unkept) (c.keep_here-2.ensures.same c.if-keep_here-2.false ∙ before)

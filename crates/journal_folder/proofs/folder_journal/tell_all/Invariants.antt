use Rattle.std.proofs.Common.{◌≡◌, ◌++◌, map, take}
use Rattle.journal_folder.proofs.folder_journal.tell_all.Given as goal

abbrev pub invariant-loop-line : goal.invariant-loop-line
invariant-loop-line l = record {
  told : l.writer.told.lines.unkept
      ≡ l.fn.writer.told.lines.unkept ++ map (λ v. v.items) (take l.line-index l.lines);
  kept : l.writer.told.lines.kept ≡ l.fn.writer.told.lines.kept;
}

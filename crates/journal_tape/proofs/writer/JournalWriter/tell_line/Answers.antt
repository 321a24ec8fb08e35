use Rattle.std.proofs.Common.{◌≡◌, ◌-◌, ◌++◌, ◌∷◌, [], true, length, sym, ap, ◌∙◌, subst}
use Rattle.journal_record.specs.Record.{lines_sum, lines_text}
use Rattle.journal_tape.specs.Tape.{IsBetween, text, zeros}
use Rattle.journal_tape.specs.Told.{LinesTold, are_lines, unkept_text, with_line}
use Rattle.journal_tape.proofs.Lines.{told_text, told_sum, told_leaves, test-append, test_one}
use Rattle.journal_tape.proofs.writer.JournalWriter.tell_line.Goals as goal

pub invariant_of-self-2 : goal.invariant_of-self-2
invariant_of-self-2 g c =
    let old = c.args.self.now in
    let told = old.told.lines in
    let line = c.args.line.now in
    let is : c.with-self.result.lines ≡ with_line line told = c.with-self.ensures in
    record {
      clean_kept = subst (λ (t : LinesTold). are_lines t.kept ≡ true) (sym is) old.clean_kept;
      clean_unkept = subst (λ (t : LinesTold). are_lines t.unkept ≡ true) (sym is)
          (test-append told.unkept (line ∷ []) old.clean_unkept (test_one line c.in_ok-self.ensures.fit));
      batch_is = c.in_ok-self.ensures.text ∙ told_text told line old.batch.items old.sum old.batch_is old.sum_is
          ∙ ap unkept_text (sym is);
      sum_is = c.in_ok-self.ensures.sum ∙ told_sum told line old.sum old.sum_is
          ∙ ap (λ (t : LinesTold). lines_sum (lines_sum 0 t.kept) t.unkept) (sym is);
      ends = subst (λ (t : LinesTold). old.end ≡ length (lines_text 0 t.kept)) (sym is) old.ends;
      within = old.within;
      file = λ sound. subst (λ (t : LinesTold). g.T.Tape.seen old.tape ≡ lines_text 0 t.kept ++ zeros (old.room - old.end)) (sym is)
          (old.file sound);
      durable = old.durable;
      leaves = λ f left. subst (λ (t : LinesTold). IsBetween (lines_text 0 t.kept) (unkept_text t) (text f)) (sym is)
          (told_leaves told line (text f) (old.leaves f left));
    }

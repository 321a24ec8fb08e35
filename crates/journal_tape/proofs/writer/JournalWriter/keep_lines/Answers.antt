use Rattle.std.proofs.Common.{◌≡◌, ◌+◌, ◌-◌, ◌++◌, [], true, List, ℕ, length, refl, sym, ap, ◌∙◌, subst, arith}
use Rattle.journal_record.specs.Record.{lines_sum, lines_text}
use Rattle.journal_tape.specs.Tape.{IsBetween, has_no_nul, text, zeros}
use Rattle.journal_tape.specs.Told.{LinesTold, all_kept, are_lines, unkept_text}
use Rattle.journal_tape.proofs.Lines.{between_same, kept_sum, kept_text, lines_are, lines_clean, only_leaves, settled_lines, test-append, text_of_lines}
use Rattle.journal_tape.proofs.Moments.{leaves_by}
use Rattle.journal_tape.proofs.writer.JournalWriter.keep_lines.Goals as goal

pub commit-requires-clause-settled : goal.commit-requires-clause-settled
commit-requires-clause-settled g c =
    let old = c.args.self.now in
    let sound : old.is_sound ≡ true = c.if-not-self.false in
    settled_lines old.told.lines.kept (g.T.Tape.seen old.tape) old.end old.room (g.T.Tape.may_leave old.tape) old.clean_kept
    (old.file sound) old.ends old.within (old.durable sound)

pub commit-requires-clause-clean : goal.commit-requires-clause-clean
commit-requires-clause-clean g c =
    let old = c.args.self.now in
    subst (λ (l : List ℕ). has_no_nul l ≡ true) (sym (c.as_slice.ensures.value ∙ old.batch_is))
    (lines_clean (lines_sum 0 old.told.lines.kept) old.told.lines.unkept (lines_are old.told.lines.unkept old.clean_unkept))

pub invariant_of-self : goal.invariant_of-self
invariant_of-self g c =
    let old = c.args.self.now in
    let told = old.told.lines in
    let sound : old.is_sound ≡ true = c.if-not-self.false in
    let is : c.all_kept-self.result.lines ≡ all_kept told = c.all_kept-self.ensures in
    let batch_is : c.as_slice.result.now ≡ unkept_text told = c.as_slice.ensures.value ∙ old.batch_is in
    let before = text_of_lines told.kept (g.T.Tape.seen old.tape) (old.room - old.end) old.clean_kept (old.file sound) in
    let after : text (g.T.Tape.seen c.commit.new.tape) ≡ lines_text 0 (told.kept ++ told.unkept) =
    kept_text told (text (g.T.Tape.seen old.tape)) (text (g.T.Tape.seen c.commit.new.tape)) c.as_slice.result.now before
    batch_is c.in-Ok.ensures.kept in
    let settled = c.in-Ok.ensures.settled in
    let count : length c.as_slice.result.now ≡ c.len.result = c.as_slice.ensures.len ∙ sym c.len.ensures in
    let end : old.end + length c.as_slice.result.now ≡ old.end + c.len.result = ap (λ (n : ℕ). old.end + n) count in
    record {
      clean_kept = subst (λ (t : LinesTold). are_lines t.kept ≡ true) (sym is)
          (test-append told.kept told.unkept old.clean_kept old.clean_unkept);
      clean_unkept = subst (λ (t : LinesTold). are_lines t.unkept ≡ true) (sym is) refl;
      batch_is = c.clear.ensures.items ∙ ap unkept_text (sym is);
      sum_is = kept_sum told old.sum old.sum_is ∙ ap (λ (t : LinesTold). lines_sum (lines_sum 0 t.kept) t.unkept) (sym is);
      ends = sym end ∙ settled.ends ∙ ap length after ∙ ap (λ (t : LinesTold). length (lines_text 0 t.kept)) (sym is);
      within = let within = settled.within in omega (arith, within, end);
      file = λ still. settled.file
          ∙ ap (λ (l : List ℕ). l ++ zeros (old.room - (old.end + length c.as_slice.result.now))) after
          ∙ ap (λ (n : ℕ). lines_text 0 (told.kept ++ told.unkept) ++ zeros (old.room - n)) end
          ∙ ap (λ (t : LinesTold). lines_text 0 t.kept ++ zeros (old.room - (old.end + c.len.result))) (sym is);
      durable = λ still. settled.durable;
      leaves = λ f left. subst (λ (t : LinesTold). IsBetween (lines_text 0 t.kept) (unkept_text t) (text f)) (sym is)
          (only_leaves (told.kept ++ told.unkept) [] (g.T.Tape.seen c.commit.new.tape) f (g.T.Tape.may_leave c.commit.new.tape)
          after settled.durable left);
    }

pub invariant_of-self-in-Err : goal.invariant_of-self-in-Err
invariant_of-self-in-Err g c =
    let old = c.args.self.now in
    let told = old.told.lines in
    let sound : old.is_sound ≡ true = c.if-not-self.false in
    let batch_is : c.as_slice.result.now ≡ unkept_text told = c.as_slice.ensures.value ∙ old.batch_is in
    let before = text_of_lines told.kept (g.T.Tape.seen old.tape) (old.room - old.end) old.clean_kept (old.file sound) in
    record {
      clean_kept = old.clean_kept;
      clean_unkept = old.clean_unkept;
      batch_is = old.batch_is;
      sum_is = old.sum_is;
      ends = old.ends;
      within = old.within;
      file = λ still. absurd (cc);
      durable = λ still. absurd (cc);
      leaves = λ f left. between_same (text (g.T.Tape.seen old.tape)) (lines_text 0 told.kept) c.as_slice.result.now
          (unkept_text told) (text f) before batch_is (c.commit.ensures.crash f left);
    }

pub returns-in-Ok-clause-any_moment : goal.returns-in-Ok-clause-any_moment
returns-in-Ok-clause-any_moment g c =
    let old = c.args.self.now in
    let told = old.told.lines in
    let sound : old.is_sound ≡ true = c.if-not-self.false in
    let batch_is : c.as_slice.result.now ≡ unkept_text told = c.as_slice.ensures.value ∙ old.batch_is in
    let before = text_of_lines told.kept (g.T.Tape.seen old.tape) (old.room - old.end) old.clean_kept (old.file sound) in
    leaves_by g.T.Tape.moment g.T.Tape.left_since old.tape c.commit.new.tape
    (λ f. IsBetween (text (g.T.Tape.seen old.tape)) c.as_slice.result.now (text f))
    (λ f. IsBetween (lines_text 0 told.kept) (unkept_text told) (text f))
    (λ f between. between_same (text (g.T.Tape.seen old.tape)) (lines_text 0 told.kept) c.as_slice.result.now
    (unkept_text told) (text f) before batch_is between)
    c.commit.ensures.any_moment

pub returns-in-Err-clause-any_moment : goal.returns-in-Err-clause-any_moment
returns-in-Err-clause-any_moment g c =
    let old = c.args.self.now in
    let told = old.told.lines in
    let sound : old.is_sound ≡ true = c.if-not-self.false in
    let batch_is : c.as_slice.result.now ≡ unkept_text told = c.as_slice.ensures.value ∙ old.batch_is in
    let before = text_of_lines told.kept (g.T.Tape.seen old.tape) (old.room - old.end) old.clean_kept (old.file sound) in
    leaves_by g.T.Tape.moment g.T.Tape.left_since old.tape c.commit.new.tape
    (λ f. IsBetween (text (g.T.Tape.seen old.tape)) c.as_slice.result.now (text f))
    (λ f. IsBetween (lines_text 0 told.kept) (unkept_text told) (text f))
    (λ f between. between_same (text (g.T.Tape.seen old.tape)) (lines_text 0 told.kept) c.as_slice.result.now
    (unkept_text told) (text f) before batch_is between)
    c.commit.ensures.any_moment
